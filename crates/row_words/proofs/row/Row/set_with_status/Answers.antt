use Rattle.std.proofs.Common.{sym, ap, ◌∙◌, List}
use Rattle.dataset_meta.specs.DataValues.{DataValue}
use Rattle.row_words.specs.Setting.{with_status}
use Rattle.row_words.proofs.SettingLaws.{both_set, set_any}
use Rattle.row_words.proofs.row.Row.set_with_status.Goals as goal

pub returns-then-quality-clause-set : goal.returns-then-quality-clause-set
returns-then-quality-clause-set c =
    c.set_status.ensures.set ∙ ap (λ (row : List DataValue). with_status row c.args.index c.args.status) c.set.ensures.set ∙ both_set _ c.args.index c.args.value.now c.args.status

pub returns-else-quality-clause-set : goal.returns-else-quality-clause-set
returns-else-quality-clause-set c =
    c.set.ensures.set ∙ set_any c.args.meta.now _ c.args.index c.args.value.now c.args.status c.requires.belongs.row (sym c.quality.ensures ∙ c.if-quality.false) c.requires.status
