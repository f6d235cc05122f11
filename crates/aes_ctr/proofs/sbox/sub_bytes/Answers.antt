use Rattle.std.proofs.Common.{refl}
use Rattle.aes_ctr.specs.Circuit.{spread_planes, norm_planes, invert_planes, multiply_planes, join_planes}
use Rattle.aes_ctr.proofs.Circuits.{staged_is}
use Rattle.aes_ctr.proofs.SubPlanes.{gates, computed, sub_planes_full, sub_planes_block}
use Rattle.aes_ctr.proofs.sbox.sub_bytes.Goals as goal

pub returns : goal.returns
unfolding spread_planes norm_planes invert_planes multiply_planes join_planes
returns c =
    let is = staged_is gates (refl, refl, refl, refl) c.args.q _ _ _ _ _ c.spread-y.ensures c.norm.ensures c.invert.ensures c.multiply.ensures c.join.ensures in
    record {
      full = sub_planes_full gates computed c.args.q c.requires _ is;
      blocks = sub_planes_block gates computed c.args.q c.requires _ is;
    }
