use Rattle.ps_script.proofs.Readers.{spelled_is_said, said_is_spelled, the_reader, each_reader}
use Rattle.ps_script.proofs.laws.there_is_one_reader_of_values.Goals as goal

pub returns : goal.returns
returns c = record { found = spelled_is_said; every = said_is_spelled; reader = the_reader; alone = each_reader }
