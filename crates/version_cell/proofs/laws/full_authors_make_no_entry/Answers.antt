use Rattle.version_cell.proofs.Sole.{filled}
use Rattle.version_cell.proofs.laws.full_authors_make_no_entry.Goals as goal

pub returns : goal.returns
returns c = λ terms log seen author small lawful starts. filled terms log seen author small lawful starts
