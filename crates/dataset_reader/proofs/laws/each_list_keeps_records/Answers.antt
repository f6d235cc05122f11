use Rattle.dataset_reader.proofs.ListLaws.{keeps-list}
use Rattle.dataset_reader.proofs.laws.each_list_keeps_records.Goals as goal

pub returns : goal.returns
returns c = keeps-list
