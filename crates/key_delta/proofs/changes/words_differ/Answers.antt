use Rattle.std.proofs.Common.{rules}
use Rattle.key_delta.proofs.FieldWords.{words_tell}
use Rattle.key_delta.proofs.changes.words_differ.Goals as goal

pub returns : goal.returns
returns c =
    words_tell c.args.meta.now c.args.old.now.words c.args.new.now.words c.args.index c.index-fields-from.result c.from-start.result c.words.result c.ne.result c.fields.ensures.meta c.requires.old c.requires.new
    c.requires.index (rw (c.fields.ensures.fields, c.from.ensures) at c.index-fields-from.is) (search rules) c.words.ensures c.ne.ensures
