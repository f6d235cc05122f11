use Rattle.std.proofs.Common.{List, ap, sym, ◌∙◌}
use Rattle.dataset_meta.specs.DataValues.{DataValue}
use Rattle.row_words.specs.Belonging.{row_in}
use Rattle.row_words.specs.Setting.{with_status}
use Rattle.row_words.proofs.SettingLaws.{both_set, set_good}
use Rattle.fixed_layout.proofs.reading.set_good.Goals as goal

pub returns-then-quality-clause-set : goal.returns-then-quality-clause-set
returns-then-quality-clause-set c = λ d.
    c.set_status.ensures.set ∙ ap (λ (r : List DataValue). with_status r c.args.index 0) (c.set_word.ensures.set d) ∙ both_set (row_in c.args.meta.now.fields c.args.row.now.words) c.args.index _ 0

pub returns-else-quality-clause-set : goal.returns-else-quality-clause-set
returns-else-quality-clause-set c = λ d.
    c.set_word.ensures.set d ∙ set_good c.args.meta.now (row_in c.args.meta.now.fields c.args.row.now.words) c.args.index _ c.requires.belongs.row (sym c.quality.ensures ∙ c.if-quality.false)
