use Rattle.std.proofs.Common.{◌<◌, arith}
use Rattle.row_words.proofs.PatchLaws.{put_is}
use Rattle.row_words.proofs.patch.Patch.put.Goals as goal

pub returns-clause-of : goal.returns-clause-of
returns-clause-of c =
    let small : c.args.index < 64 = omega (arith, c.fields.ensures.meta.count.1) in
    (put_is c.args.meta.now c.args.self.now c.args.index _ c.set_with_status.new.self small c.requires.of c.requires.index c.set_with_status.ensures.belongs c.set_with_status.ensures.set).of

pub returns-clause-put : goal.returns-clause-put
returns-clause-put c =
    let small : c.args.index < 64 = omega (arith, c.fields.ensures.meta.count.1) in
    (put_is c.args.meta.now c.args.self.now c.args.index _ c.set_with_status.new.self small c.requires.of c.requires.index c.set_with_status.ensures.belongs c.set_with_status.ensures.set).put
