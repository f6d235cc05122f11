use Rattle.std.proofs.Common.{IfSome, sym, ◌∙◌, subst, arith}
use Rattle.value_texts.specs.Spelling.{IsTextOf}
use Rattle.ps_script.proofs.Whole.{whole_text, no_number, one_number}
use Rattle.ps_script.proofs.values.value_said.Goals as goal

pub returns-in_err-decimal_number-clause-every : goal.returns-in_err-decimal_number-clause-every
returns-in_err-decimal_number-clause-every c = λ value valid fits is.
    absurd (no_number c.args.kind c.args.word.now value (sym c.is_whole.ensures ∙ c.if-is_whole.true) c.in_err-decimal_number.ensures valid fits.same_kind is)

pub returns-in_ok-decimal_number-clause-found : goal.returns-in_ok-decimal_number-clause-found
returns-in_ok-decimal_number-clause-found c =
    subst (λ found. IfSome found (IsTextOf c.args.word.now)) (sym c.whole_value.ensures) (whole_text c.args.kind c.args.word.now _ c.in_ok-decimal_number.ensures)

pub returns-in_ok-decimal_number-clause-every : goal.returns-in_ok-decimal_number-clause-every
returns-in_ok-decimal_number-clause-every c = λ value valid fits is.
    c.whole_value.ensures ∙ one_number c.args.kind c.args.word.now _ value (sym c.is_whole.ensures ∙ c.if-is_whole.true) (omega arith) c.in_ok-decimal_number.ensures valid fits.same_kind is
