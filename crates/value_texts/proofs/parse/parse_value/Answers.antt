use Rattle.std.proofs.Common.{◌≡◌, Some, sym, subst, ap, ◌∙◌}
use Rattle.std.proofs.lemmas.Option.{none-some, same_Some}
use Rattle.std.proofs.lemmas.Bool.{false≢true}
use Rattle.ua_values.specs.declared.value.Value.{Value}
use Rattle.ua_values.specs.Values.{Fits}
use Rattle.value_texts.proofs.parse.parse_value.Goals as goal

pub returns-in_err-value-clause-every : goal.returns-in_err-value-clause-every
returns-in_err-value-clause-every c = λ value valid fits is.
    let e = c.value_spelled.ensures.every value valid fits.same_kind is in
    absurd (none-some value (sym c.in_err-value.was ∙ e))

pub returns-then-fits-clause-every : goal.returns-then-fits-clause-every
returns-then-fits-clause-every c = λ value valid fits is.
    let e = c.value_spelled.ensures.every value valid fits.same_kind is in
    ap Some (same_Some c.in_ok-value.value value (sym c.in_ok-value.was ∙ e))

pub returns-else-fits-clause-every : goal.returns-else-fits-clause-every
returns-else-fits-clause-every c = λ value valid fits is.
    let e = c.value_spelled.ensures.every value valid fits.same_kind is in
    let same : value ≡ c.in_ok-value.value = same_Some value c.in_ok-value.value (sym e ∙ c.in_ok-value.was) in
    absurd (false≢true (sym c.if-fits.false ∙ c.fits.ensures.1 (subst (λ (v : Value). Fits v c.args.kind c.args.cap) same fits)))
