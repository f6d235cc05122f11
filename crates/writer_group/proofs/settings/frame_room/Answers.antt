use Rattle.std.proofs.Common.{arith}
use Rattle.writer_group.proofs.HeaderLengths.{one-writer}
use Rattle.writer_group.proofs.settings.frame_room.Goals as goal

pub returns : goal.returns
returns c = omega (arith, one-writer c.args.publisher.now c.args.group.now, c.fixed_header-header.ensures.size, c.signature_size.ensures.size, c.saturating_sub.ensures)
