use Rattle.fixed_layout.proofs.RawLaws.{one-row}
use Rattle.fixed_layout.proofs.laws.bytes_are_of_one_row.Goals as goal

pub returns : goal.returns
returns c = one-row
