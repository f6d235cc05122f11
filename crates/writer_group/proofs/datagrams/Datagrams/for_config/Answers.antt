use Rattle.std.proofs.Common.{ap, arith}
use Rattle.writer_group.specs.declared.need.Need.{Need}
use Rattle.writer_group.proofs.Needs.{bytes-most, frames-most}
use Rattle.writer_group.proofs.datagrams.Datagrams.for_config.Goals as goal

pub with_room-requires-clause-frames : goal.with_room-requires-clause-frames
with_room-requires-clause-frames c = omega (arith, ap (λ (n : Need). n.frames) c.of.ensures, frames-most c.args.config.now.group)

pub with_room-requires-clause-bytes : goal.with_room-requires-clause-bytes
with_room-requires-clause-bytes c =
    let config = c.args.config.now in
    omega (arith, ap (λ (n : Need). n.bytes) c.of.ensures, bytes-most config.publisher.id config.dataset config.group)
