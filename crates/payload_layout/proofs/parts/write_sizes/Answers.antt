use Rattle.std.proofs.Common.{◌<◌, length, refl, arith}
use Rattle.payload_layout.proofs.Laid.{length-sizes, sizes-several}
use Rattle.payload_layout.proofs.parts.write_sizes.Goals as goal

pub returns-then-room-sizes : goal.returns-then-room-sizes
returns-then-room-sizes c =
    let several : 1 < length c.args.sizes.now = omega arith in
    rw (sizes-several c.args.sizes.now several) (record { no_room = omega (arith, length-sizes c.args.sizes.now); stays = refl })
