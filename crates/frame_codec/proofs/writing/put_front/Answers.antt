use Rattle.std.proofs.Common.{◌≡◌, [], arith}
use Rattle.frame_codec.specs.Words.{frame_in}
use Rattle.frame_codec.specs.Spelling.{flags1, front_bytes}
use Rattle.ua_binary.proofs.Laying.{Puts-then}
use Rattle.frame_codec.proofs.Lengths.{length-front_bytes}
use Rattle.frame_codec.proofs.writing.put_front.Goals as goal

pub put_u8-requires : goal.put_u8-requires
put_u8-requires c = omega (arith, c.requires.room [], length-front_bytes c.args.encoding (frame_in [] c.args.frame.now))

pub put_flags2-requires : goal.put_flags2-requires
put_flags2-requires c = λ fields. omega (arith, c.requires.room fields, length-front_bytes c.args.encoding (frame_in fields c.args.frame.now))

pub put_u16_if-requires : goal.put_u16_if-requires
put_u16_if-requires c = omega (arith, c.requires.room [], length-front_bytes c.args.encoding (frame_in [] c.args.frame.now), c.put_flags2.ensures [])

pub put_u32_if-requires : goal.put_u32_if-requires
put_u32_if-requires c = omega (arith, c.requires.room [], length-front_bytes c.args.encoding (frame_in [] c.args.frame.now), c.put_flags2.ensures [])

pub put_u32_if-requires-2 : goal.put_u32_if-requires-2
put_u32_if-requires-2 c = omega (arith, c.requires.room [], length-front_bytes c.args.encoding (frame_in [] c.args.frame.now), c.put_flags2.ensures [])

pub returns : goal.returns
unfolding front_bytes
returns c = λ fields.
    let flags = Puts-then c.args.pen.now c.put_u8.new.self c.put_flags2.new.pen _ _ c.put_u8.ensures (c.put_flags2.ensures fields) in
    let number = Puts-then c.args.pen.now c.put_flags2.new.pen c.put_u16_if.new.pen _ _ flags c.put_u16_if.ensures in
    let major = Puts-then c.args.pen.now c.put_u16_if.new.pen c.put_u32_if.new.pen _ _ number c.put_u32_if.ensures in
    let whole = Puts-then c.args.pen.now c.put_u32_if.new.pen c.put_u32_if-2.new.pen _ _ major c.put_u32_if-2.ensures in
    let flags1_is : c.flags1.result ≡ flags1 c.args.encoding (frame_in fields c.args.frame.now) = c.flags1.ensures fields in
    rw flags1_is at whole
