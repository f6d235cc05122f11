use Rattle.version_cell.proofs.Retries.{left_later, not_full, sees_itself, sees_on}
use Rattle.version_cell.proofs.laws.passes_see_on.Goals as goal

pub returns : goal.returns
returns c = record { itself = sees_itself; on = sees_on; left = left_later; full = not_full }
