use Rattle.std.proofs.Common.{[], arith}
use Rattle.ua_binary.specs.Writing.{Puts}
use Rattle.ua_binary.proofs.Laying.{Puts-then}
use Rattle.frame_codec.specs.Spelling.{front_bytes}
use Rattle.frame_codec.specs.Words.{content_in, frame_in}
use Rattle.frame_codec.proofs.Lengths.{front_short}
use Rattle.writer_group.specs.Payloads.{raw_content}
use Rattle.writer_group.proofs.spelled.put_raw_message.Goals as goal

pub put_raw_kind-requires-clause-room : goal.put_raw_kind-requires-clause-room
put_raw_kind-requires-clause-room c =
    let front : Puts c.args.pen.now c.put_raw_front.new.pen (front_bytes 1 (frame_in [] c.args.frame.now)) = c.put_raw_front.ensures [] in
    omega (arith, front.moved, front.same_length, front_short 1 (frame_in [] c.args.frame.now), c.requires.room)

pub returns-clause-puts : goal.returns-clause-puts
returns-clause-puts c =
    let fields = c.args.meta.now.fields in
    Puts-then c.args.pen.now c.put_raw_front.new.pen c.put_raw_kind.new.pen (front_bytes 1 (frame_in fields c.args.frame.now)) (raw_content fields (content_in fields c.args.frame.now.kind))
    (c.put_raw_front.ensures fields) c.put_raw_kind.ensures.puts

pub returns-clause-short : goal.returns-clause-short
returns-clause-short c =
    let front : Puts c.args.pen.now c.put_raw_front.new.pen (front_bytes 1 (frame_in [] c.args.frame.now)) = c.put_raw_front.ensures [] in
    omega (arith, front.moved, front_short 1 (frame_in [] c.args.frame.now), c.put_raw_kind.ensures.short)
