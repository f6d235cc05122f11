use Rattle.version_cell.proofs.Sole.{sole_author, sole_sees_nothing}
use Rattle.version_cell.proofs.laws.sole_authors_see_nothing_new.Goals as goal

pub returns : goal.returns
returns c = record { history = sole_author; pass = sole_sees_nothing }
