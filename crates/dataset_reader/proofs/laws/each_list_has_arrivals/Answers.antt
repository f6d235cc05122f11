use Rattle.dataset_reader.proofs.EveryLaws.{has-arrivals}
use Rattle.dataset_reader.proofs.laws.each_list_has_arrivals.Goals as goal

pub returns : goal.returns
returns c = has-arrivals
