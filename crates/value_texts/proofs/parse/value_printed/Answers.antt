use Rattle.std.proofs.Common.{◌≡◌, Some, sym, subst, ap, ◌∙◌}
use Rattle.std.proofs.lemmas.Option.{none-some, same_Some}
use Rattle.std.proofs.lemmas.Bool.{false≢true}
use Rattle.value_texts.specs.Texts.{value_text_of}
use Rattle.value_texts.specs.Spelling.{IsTextOf}
use Rattle.value_texts.proofs.TextLaws.{printed_is_text, text_is_printed}
use Rattle.value_texts.proofs.parse.value_printed.Goals as goal

pub returns-in_err-value-clause-every : goal.returns-in_err-value-clause-every
returns-in_err-value-clause-every c = λ value valid same is.
    let e = c.candidate.ensures value valid same (text_is_printed c.args.word.now value c.args.kind same c.requires is) in
    absurd (none-some value (sym c.in_err-value.was ∙ e))

pub returns-then-is_printed_as-clause-found : goal.returns-then-is_printed_as-clause-found
returns-then-is_printed_as-clause-found c =
    subst (λ w. IsTextOf w c.in_ok-value.value) (sym (c.is_printed_as.ensures.printed.0 c.if-is_printed_as.true)) (printed_is_text c.in_ok-value.value c.is_printed_as.ensures.valid)

pub returns-then-is_printed_as-clause-every : goal.returns-then-is_printed_as-clause-every
returns-then-is_printed_as-clause-every c = λ value valid same is.
    let e = c.candidate.ensures value valid same (text_is_printed c.args.word.now value c.args.kind same c.requires is) in
    ap Some (same_Some c.in_ok-value.value value (sym c.in_ok-value.was ∙ e))

pub returns-else-is_printed_as-clause-every : goal.returns-else-is_printed_as-clause-every
returns-else-is_printed_as-clause-every c = λ value valid same is.
    let text = text_is_printed c.args.word.now value c.args.kind same c.requires is in
    let e = c.candidate.ensures value valid same text in
    let v : value ≡ c.in_ok-value.value = same_Some value c.in_ok-value.value (sym e ∙ c.in_ok-value.was) in
    absurd (false≢true (sym c.if-is_printed_as.false ∙ c.is_printed_as.ensures.printed.1 (text ∙ ap value_text_of v)))
