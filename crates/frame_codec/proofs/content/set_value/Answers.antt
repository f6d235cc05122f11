use Rattle.std.proofs.Common.{sym, ◌∙◌}
use Rattle.row_words.specs.Belonging.{row_in}
use Rattle.frame_codec.proofs.Setting.{set_both, set_dropped}
use Rattle.frame_codec.proofs.content.set_value.Goals as goal

pub returns-then-quality-clause-set : goal.returns-then-quality-clause-set
returns-then-quality-clause-set c =
    set_both c.args.meta.now.quality (row_in c.args.meta.now.fields c.args.row.now.words) _ _ c.args.index c.args.value.now c.args.status (sym c.quality.ensures ∙ c.if-quality.true) c.set.ensures.set c.set_status.ensures.set

pub returns-else-quality-clause-set : goal.returns-else-quality-clause-set
returns-else-quality-clause-set c =
    set_dropped c.args.meta.now (row_in c.args.meta.now.fields c.args.row.now.words) _ c.args.index c.args.value.now c.args.status c.requires.row.row (sym c.quality.ensures ∙ c.if-quality.false) c.set.ensures.set
