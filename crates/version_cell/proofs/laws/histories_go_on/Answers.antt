use Rattle.version_cell.proofs.Logs.{own-append, starts_itself, starts_length, starts_longer, starts_trans}
use Rattle.version_cell.proofs.laws.histories_go_on.Goals as goal

pub returns : goal.returns
returns c = record { itself = starts_itself; on = starts_trans; longer = starts_longer; shorter = starts_length; entries = own-append }
