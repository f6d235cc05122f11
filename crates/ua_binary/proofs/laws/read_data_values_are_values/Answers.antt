use Rattle.ua_binary.proofs.Spelled.{data_value-is_value, data_value-status}
use Rattle.ua_binary.proofs.laws.read_data_values_are_values.Goals as goal

pub returns : goal.returns
returns c = record { value = data_value-is_value; status = data_value-status }
