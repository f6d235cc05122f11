use Rattle.std.proofs.Common.{◌≡◌, Some, sym, ap, ◌∙◌}
use Rattle.std.proofs.lemmas.Option.{none-some, same_Some}
use Rattle.std.proofs.lemmas.Bool.{false≢true}
use Rattle.value_texts.specs.Texts.{value_text_of, hex_text_32}
use Rattle.value_texts.proofs.parse.parse_status.Goals as goal

pub returns-in_err-status-clause-every : goal.returns-in_err-status-clause-every
returns-in_err-status-clause-every c = λ status low is.
    let e = c.bits_32.ensures status low is in
    absurd (none-some status (sym c.in_err-status.was ∙ e))

pub returns-then-is_printed_as-clause-found : goal.returns-then-is_printed_as-clause-found
unfolding value_text_of
returns-then-is_printed_as-clause-found c = c.is_printed_as.ensures.printed.0 c.if-is_printed_as.true

pub returns-then-is_printed_as-clause-every : goal.returns-then-is_printed_as-clause-every
returns-then-is_printed_as-clause-every c = λ status low is. let e = c.bits_32.ensures status low is in
    ap Some (same_Some c.in_ok-status.status status (sym c.in_ok-status.was ∙ e))

pub returns-else-is_printed_as-clause-every : goal.returns-else-is_printed_as-clause-every
unfolding value_text_of
returns-else-is_printed_as-clause-every c = λ status low is.
    let e = c.bits_32.ensures status low is in
    let s : status ≡ c.in_ok-status.status = same_Some status c.in_ok-status.status (sym e ∙ c.in_ok-status.was) in
    absurd (false≢true (sym c.if-is_printed_as.false ∙ c.is_printed_as.ensures.printed.1 (is ∙ ap hex_text_32 s)))
