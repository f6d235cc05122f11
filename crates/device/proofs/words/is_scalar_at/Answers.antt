use Rattle.std.proofs.Common.{[], sym, ◌∙◌, arith}
use Rattle.std.proofs.lemmas.Bool.{OnFalse_from, OnTrue_from, false≢true}
use Rattle.ua_values.specs.declared.kind.Kind.TheVariants.{Boolean}
use Rattle.dataset_meta.specs.declared.field.Field.{Field}
use Rattle.device.specs.Sides.{IsScalarAt}
use Rattle.device.proofs.words.is_scalar_at.Goals as goal

no_field : Field
no_field = record { name = []; kind = Boolean; cap = 0 }

pub returns-then-not-has_field_at-clause-not : goal.returns-then-not-has_field_at-clause-not
returns-then-not-has_field_at-clause-not c = λ at. omega (arith, at.within, c.if-not-has_field_at.ensures.not)

pub returns-then-not-is_kind-clause-not : goal.returns-then-not-is_kind-clause-not
returns-then-not-is_kind-clause-not c = λ at. c.if-not-is_kind.ensures.no (sym (c.kind_at.ensures no_field) ∙ at.kind_is no_field)

pub returns-clause-there : goal.returns-clause-there
returns-clause-there c = OnTrue_from c.is_scalar.result (IsScalarAt c.args.meta.now c.args.field c.args.kind) (λ yes. record {
  within = c.if-not-has_field_at.ensures.there;
  kind_is = λ d. c.kind_at.ensures d ∙ c.if-not-is_kind.ensures.yes;
  scalar = sym c.is_scalar.ensures ∙ yes;
})

pub returns-clause-not : goal.returns-clause-not
returns-clause-not c = OnFalse_from c.is_scalar.result (¬ IsScalarAt c.args.meta.now c.args.field c.args.kind) (λ no at. false≢true (sym no ∙ c.is_scalar.ensures ∙ at.scalar))
