use Rattle.dataset_reader.proofs.ListLaws.{unnumbered-list}
use Rattle.dataset_reader.proofs.laws.each_unnumbered_list_keeps_the_last_whole.Goals as goal

pub returns : goal.returns
returns c = unnumbered-list
