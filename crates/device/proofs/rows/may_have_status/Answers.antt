use Rattle.std.proofs.Common.{eq-eqb, sym, subst, ◌∙◌, arith}
use Rattle.std.specs.Prelude.{Bool, ◌==◌}
use Rattle.std.proofs.lemmas.Bool.{OnFalse_from, false≢true}
use Rattle.dataset_meta.specs.DataValues.{IsStatus}
use Rattle.device.specs.Sides.{MayHaveStatus}
use Rattle.device.proofs.rows.may_have_status.Goals as goal

pub returns-then-not-has_field_at-clause-not : goal.returns-then-not-has_field_at-clause-not
returns-then-not-has_field_at-clause-not c = λ may. omega (arith, may.within, c.if-not-has_field_at.ensures.not)

pub returns-clause-not : goal.returns-clause-not
returns-clause-not c =
    OnFalse_from (c.args.status == 0) (¬ MayHaveStatus c.args.meta.now c.args.field c.args.status) (λ no may.
    false≢true (sym no ∙ eq-eqb c.args.status 0 (subst (λ (quality : Bool). IsStatus quality c.args.status) (sym c.quality.ensures ∙ c.if-quality.false) may.is_status)))
