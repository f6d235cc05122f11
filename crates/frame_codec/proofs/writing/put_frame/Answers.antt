use Rattle.std.proofs.Common.{ℕ, subst, arith}
use Rattle.ua_binary.specs.Writing.{Puts}
use Rattle.ua_binary.proofs.Laying.{Puts-then}
use Rattle.frame_codec.specs.Words.{frame_in}
use Rattle.frame_codec.specs.Spelling.{encoding_of, front_bytes, frame_bytes}
use Rattle.frame_codec.proofs.Lengths.{front_same, length-frame_bytes}
use Rattle.frame_codec.proofs.writing.put_frame.Goals as goal

pub put_front-requires-clause-room : goal.put_front-requires-clause-room
put_front-requires-clause-room c = λ fields.
    let frame = frame_in c.args.meta.now.fields c.args.frame.now in
    omega (
      arith,
      c.requires.room,
      length-frame_bytes c.args.meta.now.quality frame,
      front_same c.encoding_of.result (encoding_of c.args.meta.now.quality frame.content) fields c.args.meta.now.fields c.args.frame.now,
    )

pub put_content-requires-clause-room : goal.put_content-requires-clause-room
put_content-requires-clause-room c =
    let frame = frame_in c.args.meta.now.fields c.args.frame.now in
    let put = c.put_front.ensures c.args.meta.now.fields in
    omega (
      arith,
      c.requires.room,
      length-frame_bytes c.args.meta.now.quality frame,
      put.moved,
      put.same_length,
      front_same c.encoding_of.result (encoding_of c.args.meta.now.quality frame.content) c.args.meta.now.fields c.args.meta.now.fields c.args.frame.now,
    )

pub returns : goal.returns
unfolding frame_bytes
returns c =
    let frame = frame_in c.args.meta.now.fields c.args.frame.now in
    let put = subst (λ (encoding : ℕ). Puts c.args.pen.now c.put_front.new.pen (front_bytes encoding frame)) (c.encoding_of.ensures.encoding c.args.meta.now.fields) (c.put_front.ensures c.args.meta.now.fields) in
    Puts-then c.args.pen.now c.put_front.new.pen c.put_content.new.pen _ _ put c.put_content.ensures
