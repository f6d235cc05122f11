use Rattle.std.proofs.Common.{◌≡◌, ◌<◌, length, sym, ap, ◌∙◌, rules, arith}
use Rattle.std.specs.Result.{result_ok}
use Rattle.std.proofs.lemmas.Bool.Decides.{nat_tests}
use Rattle.std.proofs.lemmas.Grind.{common_steps}
use Rattle.ua_values.specs.Texts.{text_of}
use Rattle.value_texts.specs.Spelling.{BeginsWith, Spells}
use Rattle.value_texts.proofs.Spellings.{read_more, read_all, only_read, no_text, judged, accepted}
use Rattle.value_texts.proofs.spelling.text_spelled.Goals as goal

pub returns-in_err-byte-clause-every : goal.returns-in_err-byte-clause-every
returns-in_err-byte-clause-every c = λ text valid spells.
    let some : 0 < length c.bytes.rest.now = grind (arith, nat_tests) in
    absurd (no_text c.args.word.now c.bytes.bytes.items c.bytes.rest.now text c.bytes.invariant some c.in_err-byte.ensures spells)

pub bytes-preserved : goal.bytes-preserved
bytes-preserved c =
    let begins : BeginsWith c.bytes.rest.now c.in_ok-byte.byte c.in_ok-byte.behind.now = first_of (search rules, grind (arith, common_steps)) in
    rw c.push.ensures.items (read_more c.args.word.now c.bytes.bytes.items c.bytes.rest.now c.in_ok-byte.behind.now c.in_ok-byte.byte c.bytes.invariant begins)

pub returns-clause-found : goal.returns-clause-found
returns-clause-found c =
    let none : length c.bytes.rest.now ≡ 0 = grind (arith, nat_tests) in
    rw (c.ok.ensures.value, c.from_bytes.ensures, c.as_slice.ensures.value)
    (judged (Spells c.args.word.now) c.bytes.bytes.items (λ short utf8. read_all c.args.word.now c.bytes.bytes.items c.bytes.rest.now c.bytes.invariant none))

pub returns-clause-every : goal.returns-clause-every
returns-clause-every c = λ text valid spells.
    let none : length c.bytes.rest.now ≡ 0 = grind (arith, nat_tests) in
    let same : text ≡ c.bytes.bytes.items = only_read c.args.word.now c.bytes.bytes.items c.bytes.rest.now text c.bytes.invariant none spells in
    c.ok.ensures.value ∙ ap result_ok (c.from_bytes.ensures ∙ ap text_of (c.as_slice.ensures.value ∙ sym same) ∙ accepted text valid)
