use Rattle.ua_binary.proofs.Spelled.{data_value_again}
use Rattle.ua_binary.proofs.laws.written_data_values_are_read.Goals as goal

pub returns : goal.returns
returns c = data_value_again
