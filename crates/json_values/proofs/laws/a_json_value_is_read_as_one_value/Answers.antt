use Rattle.json_values.proofs.OneValue.{read_once}
use Rattle.json_values.proofs.laws.a_json_value_is_read_as_one_value.Goals as goal

pub returns : goal.returns
returns c = read_once
