use Rattle.std.proofs.Common.{◌<◌, arith}
use Rattle.row_words.proofs.FieldLaws.{stands}
use Rattle.row_words.proofs.PatchLaws.{put_is}
use Rattle.row_words.proofs.patch.Patch.mark.Goals as goal

pub returns-clause-of : goal.returns-clause-of
returns-clause-of c =
    let small : c.args.index < 64 = omega (arith, c.fields.ensures.meta.count.1) in
    let s = stands c.args.meta.now c.args.row.now.words c.args.index c.requires.belongs c.requires.index in
    (put_is c.args.meta.now c.args.self.now c.args.index _ c.copy_field.new.to small c.requires.of c.requires.index c.copy_field.ensures.belongs (c.copy_field.ensures.copied s.x)).of

pub returns-clause-put : goal.returns-clause-put
returns-clause-put c = λ d.
    let small : c.args.index < 64 = omega (arith, c.fields.ensures.meta.count.1) in
    (put_is c.args.meta.now c.args.self.now c.args.index _ c.copy_field.new.to small c.requires.of c.requires.index c.copy_field.ensures.belongs (c.copy_field.ensures.copied d)).put
