use Rattle.std.proofs.Common.{arith}
use Rattle.frame_codec.specs.Words.{frame_in}
use Rattle.frame_codec.specs.Spelling.{encoding_of}
use Rattle.frame_codec.proofs.Lengths.{length-frame_bytes}
use Rattle.frame_codec.proofs.length.frame_len.Goals as goal

pub returns : goal.returns
returns c =
    let fields = c.args.meta.now.fields in
    let frame = frame_in fields c.args.frame.now in
    omega (arith, length-frame_bytes c.args.meta.now.quality frame, c.front_len.ensures.len (encoding_of c.args.meta.now.quality frame.content) fields, c.content_len.ensures.len)
