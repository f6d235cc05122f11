use Rattle.ua_binary.proofs.Spelled.{data_value-begins, data_value-begins-read}
use Rattle.ua_binary.proofs.laws.data_values_are_read_as_spelled.Goals as goal

pub returns : goal.returns
returns c = λ bytes rest measured all. (data_value-begins bytes rest measured all, data_value-begins-read bytes rest measured)
