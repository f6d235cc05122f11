use Rattle.std.proofs.Common.{sym, ◌∙◌}
use Rattle.key_delta.proofs.FieldWords.{good_tells}
use Rattle.key_delta.proofs.changes.differs_at.Goals as goal

pub returns-else-quality : goal.returns-else-quality
returns-else-quality c =
    good_tells c.args.meta.now c.args.old.now.words c.args.new.now.words c.args.index c.value_differs.result c.quality.result c.requires.old c.requires.new c.requires.index
    (sym c.quality.ensures ∙ c.if-quality.false) c.if-quality.false c.if-value_differs.false c.value_differs.ensures
