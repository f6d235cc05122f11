use Rattle.std.proofs.Common.{ℕ, sym, ◌∙◌, subst, arith}
use Rattle.key_delta.specs.Fronts.{HasZerosBehind}
use Rattle.key_delta.proofs.FrontLaws.{belongs_behind, good_behind}
use Rattle.key_delta.proofs.copying.used_words.Goals as goal

pub returns-then-quality-clause-zeros : goal.returns-then-quality-clause-zeros
returns-then-quality-clause-zeros c = λ words belongs.
    belongs_behind c.args.meta.now words c.words.result belongs (omega (arith, c.words.ensures.words)) c.words.ensures.narrow

pub returns-else-quality-clause-zeros : goal.returns-else-quality-clause-zeros
returns-else-quality-clause-zeros c = λ words belongs.
    subst (λ (n : ℕ). HasZerosBehind n words) (sym c.value_words.ensures) (good_behind c.args.meta.now words c.fields.ensures.meta belongs (sym c.quality.ensures ∙ c.if-quality.false))
