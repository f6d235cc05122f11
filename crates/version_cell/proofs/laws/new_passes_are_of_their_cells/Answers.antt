use Rattle.version_cell.proofs.Each.{new_at, new_lawful, new_own}
use Rattle.version_cell.proofs.laws.new_passes_are_of_their_cells.Goals as goal

pub returns : goal.returns
returns c = record { own = new_own; each = new_at; lawful = new_lawful }
