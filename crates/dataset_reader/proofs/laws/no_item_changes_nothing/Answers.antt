use Rattle.dataset_reader.proofs.ListLaws.{no_item-stays}
use Rattle.dataset_reader.proofs.laws.no_item_changes_nothing.Goals as goal

pub returns : goal.returns
returns c = no_item-stays
