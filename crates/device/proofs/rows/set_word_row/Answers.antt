use Rattle.std.proofs.Common.{◌≡◌, [], subst}
use Rattle.ua_values.specs.declared.kind.Kind.{Kind}
use Rattle.ua_values.specs.declared.kind.Kind.TheVariants.{Boolean}
use Rattle.dataset_meta.specs.declared.field.Field.{Field}
use Rattle.row_words.specs.Belonging.{row_in}
use Rattle.row_words.specs.Setting.{with_value}
use Rattle.row_words.specs.Words.{scalar_in}
use Rattle.device.proofs.rows.set_word_row.Goals as goal

pub returns-clause-set : goal.returns-clause-set
returns-clause-set c =
    let d : Field = record { name = []; kind = Boolean; cap = 0 } in
    let is = c.if-not-is_scalar_at.ensures.there in
    subst (λ (k : Kind). row_in c.args.meta.now.fields c.set_word.new.self.words
    ≡ with_value (row_in c.args.meta.now.fields c.args.sampled.now.row.words) c.args.field (scalar_in k c.args.word))
    (is.kind_is d) (c.set_word.ensures.set d)

pub returns-then-not-is_scalar_at-clause-misfit : goal.returns-then-not-is_scalar_at-clause-misfit
returns-then-not-is_scalar_at-clause-misfit c = λ may. c.if-not-is_scalar_at.ensures.not may.kind_is

pub returns-then-not-is_word_of-clause-misfit : goal.returns-then-not-is_word_of-clause-misfit
returns-then-not-is_word_of-clause-misfit c = λ may. c.if-not-is_word_of.ensures.no may.word_is
