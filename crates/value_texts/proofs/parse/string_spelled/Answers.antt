use Rattle.std.proofs.Common.{◌≡◌, Some, subst, ap, sym, ◌∙◌}
use Rattle.std.proofs.lemmas.Option.{none-some, same_Some}
use Rattle.ua_values.specs.declared.value.Value.TheVariants as values
use Rattle.ua_values.specs.Values.{IsValue}
use Rattle.value_texts.specs.Spelling.{IsTextOf}
use Rattle.value_texts.proofs.OfKinds.{of_string}
use Rattle.value_texts.proofs.parse.string_spelled.Goals as goal

pub returns-in_err-text-clause-every : goal.returns-in_err-text-clause-every
returns-in_err-text-clause-every c = λ value valid same is.
    let o = of_string value same in
    let e : c.text_spelled.result ≡ Some o.0 = c.text_spelled.ensures.every o.0 (subst IsValue o.1 valid) (subst (IsTextOf c.args.word.now) o.1 is) in
    absurd (none-some o.0 (sym c.in_err-text.was ∙ e))

pub returns-clause-every : goal.returns-clause-every
returns-clause-every c = λ value valid same is.
    let o = of_string value same in
    let e : c.text_spelled.result ≡ Some o.0 = c.text_spelled.ensures.every o.0 (subst IsValue o.1 valid) (subst (IsTextOf c.args.word.now) o.1 is) in
    let t : c.in_ok-text.text ≡ o.0 = same_Some c.in_ok-text.text o.0 (sym c.in_ok-text.was ∙ e) in
    ap (λ x. Some (values.String x)) t ∙ ap Some (sym o.1)
