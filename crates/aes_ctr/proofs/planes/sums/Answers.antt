use Rattle.std.proofs.Common.{refl}
use Rattle.aes_ctr.proofs.planes.sums.Goals as goal

pub returns : goal.returns
returns c = refl
