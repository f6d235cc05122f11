use Rattle.std.proofs.Common.{refl}
use Rattle.aes_ctr.proofs.Packing.{packed}
use Rattle.aes_ctr.proofs.planes.to_planes.Goals as goal

pub returns : goal.returns
returns c = rw c.transpose.ensures.lanes record {
  full = (refl, refl, refl, refl, refl, refl, refl, refl);
  blocks = packed c.args.blocks c.requires;
}
