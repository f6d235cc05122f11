use Rattle.std.proofs.Common.{[], arith}
use Rattle.ua_binary.specs.Writing.{Refuses}
use Rattle.frame_codec.specs.Spelling.{front_bytes}
use Rattle.frame_codec.specs.Words.{frame_in}
use Rattle.frame_codec.proofs.Lengths.{front_short}
use Rattle.writer_group.proofs.spelled.put_raw_front.Goals as goal

pub unreachable-requires : goal.unreachable-requires
unreachable-requires c =
    let refused : Refuses c.args.pen.now c.write_front.new.pen (front_bytes 1 (frame_in [] c.args.frame.now)) = c.in-Err.ensures [] in
    omega (arith, refused.no_room, front_short 1 (frame_in [] c.args.frame.now), c.requires)
