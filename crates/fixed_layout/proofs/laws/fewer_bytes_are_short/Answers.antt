use Rattle.fixed_layout.proofs.RawLaws.{row-fewer}
use Rattle.fixed_layout.proofs.laws.fewer_bytes_are_short.Goals as goal

pub returns : goal.returns
returns c = row-fewer
