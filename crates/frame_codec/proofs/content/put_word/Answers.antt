use Rattle.std.proofs.Common.{◌<◌, arith}
use Rattle.row_words.proofs.PatchLaws.{put_is}
use Rattle.frame_codec.proofs.RowReading.{some_field}
use Rattle.frame_codec.proofs.content.put_word.Goals as goal

pub returns-clause-of : goal.returns-clause-of
returns-clause-of c =
    let small : c.args.index < 64 = omega (arith, c.fields.ensures.meta.count.1) in
    let field = (some_field c.args.meta.now.fields c.args.index c.requires.index).0 in
    (put_is c.args.meta.now c.args.patch.now c.args.index _ c.set_word.new.row small c.requires.patch c.requires.index c.set_word.ensures.belongs (c.set_word.ensures.set field)).of

pub returns-clause-put : goal.returns-clause-put
returns-clause-put c =
    let small : c.args.index < 64 = omega (arith, c.fields.ensures.meta.count.1) in
    λ d. (put_is c.args.meta.now c.args.patch.now c.args.index _ c.set_word.new.row small c.requires.patch c.requires.index c.set_word.ensures.belongs (c.set_word.ensures.set d)).put
