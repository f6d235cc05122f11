use Rattle.fixed_layout.proofs.RawLaws.{read-fits, read-good}
use Rattle.fixed_layout.proofs.laws.read_rows_fit.Goals as goal

pub returns : goal.returns
returns c = record { row = read-fits; good = read-good }
