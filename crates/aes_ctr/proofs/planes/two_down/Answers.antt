use Rattle.std.proofs.Common.{refl}
use Rattle.aes_ctr.proofs.planes.two_down.Goals as goal

pub returns : goal.returns
returns c = refl
