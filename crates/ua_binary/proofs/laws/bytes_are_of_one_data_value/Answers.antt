use Rattle.ua_binary.proofs.Spelled.{same_data_value}
use Rattle.ua_binary.proofs.laws.bytes_are_of_one_data_value.Goals as goal

pub returns : goal.returns
returns c = same_data_value
