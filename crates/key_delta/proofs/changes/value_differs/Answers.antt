use Rattle.std.proofs.Common.{refl}
use Rattle.key_delta.proofs.FieldWords.{word_tells}
use Rattle.key_delta.proofs.changes.value_differs.Goals as goal

pub returns-then-is_scalar : goal.returns-then-is_scalar
returns-then-is_scalar c =
    word_tells c.args.meta.now c.args.old.now.words c.args.new.now.words c.args.index c.index-fields-from.result c.word.result c.word-then-is_scalar.result _ c.requires.old c.requires.new c.requires.index
    c.word.ensures.word c.word-then-is_scalar.ensures.word c.word.ensures.value c.word-then-is_scalar.ensures.value refl
