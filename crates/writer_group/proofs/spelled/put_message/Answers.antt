use Rattle.std.proofs.Common.{arith}
use Rattle.ua_binary.specs.Writing.{Refuses}
use Rattle.frame_codec.specs.Spelling.{frame_bytes}
use Rattle.frame_codec.specs.Words.{frame_in}
use Rattle.frame_codec.proofs.Lengths.{words_short}
use Rattle.writer_group.proofs.spelled.put_message.Goals as goal

pub unreachable-requires : goal.unreachable-requires
unreachable-requires c =
    let meta = c.args.meta.now in
    let refused : Refuses c.args.pen.now c.write_frame.new.pen (frame_bytes meta.quality (frame_in meta.fields c.args.frame.now)) = c.in-Err.ensures.written in
    omega (arith, refused.no_room, words_short meta c.args.frame.now c.fields.ensures.meta c.requires.frame, c.requires.room)
