use Rattle.std.proofs.Common.{◌≡◌, length, arith}
use Rattle.aes_ctr.specs.Cipher.{aes256, expanded}
use Rattle.aes_ctr.proofs.keys.Key256.encrypt_eight.Goals as goal

pub returns-clause-blocks : goal.returns-clause-blocks
unfolding aes256
returns-clause-blocks c j h =
    let long : length c.self.inside.round_keys ≡ 15 = omega arith in
    let same = rw long at (c.encrypt_eight.ensures.blocks (expanded 8 c.self.inside.key 52)) in
    rw c.self.view_is at (same c.self.invariant j h)
