use Rattle.std.proofs.Common.{arith, ◌≡◌, length, get_or}
use Rattle.value_texts.proofs.Decimals.{number_found, number_none, no_text, no_plus, no_zero, no_empty, single}
use Rattle.value_texts.proofs.decimal.decimal_number.Goals as goal
use Rattle.value_texts.proofs.decimal.decimal_number.Goals.{else-word-eq48-via-then-word-eq48+else-word-gt1, else-word-eq48-via-else-word-eq48}

pub returns-then-is_empty : goal.returns-then-is_empty
returns-then-is_empty c = no_empty c.args.word.now (grind arith)

pub returns-then-word-eq43 : goal.returns-then-word-eq43
returns-then-word-eq43 c = no_plus c.args.word.now c.if-word-eq43.true

pub returns-then-word-gt1 : goal.returns-then-word-gt1
returns-then-word-gt1 c = no_zero c.args.word.now c.if-word-eq48.true c.if-word-gt1.true

pub returns-in_default : goal.returns-in_default
returns-in_default c = no_text c.args.word.now c.in_default.ensures.cases.0

pub returns-in-Err : goal.returns-in-Err
returns-in-Err c = number_none c.args.word.now _ _ c.in-Err.is (rw c.in-Ok.ensures.cases.0 at c.parse.ensures.value.0)

pub returns-in-Ok-parse : goal.returns-in-Ok-parse
returns-in-Ok-parse c =
    let word = c.args.word.now in
    let one : get_or word 0 0 ≡ 48 → length word ≡ 1 = λ zero. elim c.else-word-eq48.branch [
      | else-word-eq48-via-then-word-eq48+else-word-gt1 w ↦ single word zero w.if-word-gt1.false
      | else-word-eq48-via-else-word-eq48 w ↦ absurd (w.if-word-eq48.false zero)
    ] in
    number_found word _ _ c.in-Ok-parse.is (rw c.in-Ok.ensures.cases.0 at c.parse.ensures.value.0) c.if-word-eq43.false one
