use Rattle.std.proofs.Common.{[], subst}
use Rattle.ua_values.specs.declared.kind.Kind.{Kind}
use Rattle.ua_values.specs.declared.kind.Kind.TheVariants.{Boolean}
use Rattle.dataset_meta.specs.declared.field.Field.{Field}
use Rattle.row_words.specs.Belonging.{row_in}
use Rattle.row_words.specs.Setting.{HasValue}
use Rattle.row_words.specs.Words.{scalar_in}
use Rattle.device.proofs.rows.word_of.Goals as goal

pub returns-clause-word : goal.returns-clause-word
returns-clause-word c =
    let none : Field = record { name = []; kind = Boolean; cap = 0 } in
    subst (λ (kind : Kind). HasValue (row_in c.args.meta.now.fields c.args.row.now.words) c.args.field (scalar_in kind c.word.result))
    (c.if-not-is_scalar_at.ensures.there.kind_is none) (c.word.ensures.value none)
