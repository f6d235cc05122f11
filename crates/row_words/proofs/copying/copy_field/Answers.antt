use Rattle.std.proofs.Common.{sym, ◌∙◌}
use Rattle.row_words.proofs.SettingLaws.{copied_good, copied_both}
use Rattle.row_words.proofs.copying.copy_field.Goals as goal

pub returns-then-quality-clause-copied : goal.returns-then-quality-clause-copied
returns-then-quality-clause-copied c =
    copied_both c.args.meta.now c.args.from.now.words c.args.to.now.words c.copy_value.new.to.words c.set_status.new.self.words c.args.index c.status.result c.requires.from c.requires.index c.status.ensures
    c.copy_value.ensures.copied c.set_status.ensures.set

pub returns-else-quality-clause-copied : goal.returns-else-quality-clause-copied
returns-else-quality-clause-copied c =
    copied_good c.args.meta.now c.args.from.now.words c.args.to.now.words c.copy_value.new.to.words c.args.index c.requires.from c.requires.to c.requires.index (sym c.quality.ensures ∙ c.if-quality.false)
    c.copy_value.ensures.copied
