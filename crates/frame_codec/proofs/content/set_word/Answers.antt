use Rattle.std.proofs.Common.{sym, ◌∙◌}
use Rattle.row_words.specs.Belonging.{row_in}
use Rattle.frame_codec.proofs.Setting.{set_both, set_dropped}
use Rattle.frame_codec.proofs.content.set_word.Goals as goal

pub returns-then-quality-clause-set : goal.returns-then-quality-clause-set
returns-then-quality-clause-set c = λ d.
    set_both c.args.meta.now.quality (row_in c.args.meta.now.fields c.args.row.now.words) _ _ c.args.index _ c.args.own.status (sym c.requires.quality ∙ c.if-quality.true) (c.set_word.ensures.set d) c.set_status.ensures.set

pub returns-else-quality-clause-set : goal.returns-else-quality-clause-set
returns-else-quality-clause-set c = λ d.
    set_dropped c.args.meta.now (row_in c.args.meta.now.fields c.args.row.now.words) _ c.args.index _ c.args.own.status c.requires.row.row (sym c.requires.quality ∙ c.if-quality.false) (c.set_word.ensures.set d)
