use Rattle.text_laws.proofs.OneLine.{one_line}
use Rattle.text_laws.proofs.laws.a_line_of_json_is_one_line.Goals as goal

pub returns : goal.returns
returns c = one_line
