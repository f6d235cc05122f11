use Rattle.std.proofs.Common.{◌≡◌, ℕ, ◌≤◌, sym, ◌∙◌, ap, true, arith}
use Rattle.std.specs.Prelude.{Ok, is_some}
use Rattle.replay_window.specs.Taken.{seen}
use Rattle.replay_window.specs.declared.seen.Seen.TheVariants as answers
use Rattle.uadp_header.specs.Headers.{security_in}
use Rattle.message_guard.specs.declared.pass.Pass1.{Pass1}
use Rattle.message_guard.specs.Acceptance.{highest, numbers_of}
use Rattle.message_guard.specs.Opening.{front_refusals, is_signed, judged, signed_pass}
use Rattle.message_guard.specs.Protection.{keys_with, number_in}
use Rattle.message_guard.proofs.Judging.{judged_secured}
use Rattle.message_guard.proofs.guard.Guard.test_secured.Goals as goal

pub returns-in-Fresh-clause-verdict : goal.returns-in-Fresh-clause-verdict
returns-in-Fresh-clause-verdict c =
    λ accepted is.
    let part = security_in c.args.part.now in
    let keys = c.args.self.now.keys in
    let datagram = c.args.datagram.now in
    let front : judged {X = Unit {0}} (front_refusals part datagram c.args.payload) tt ≡ Ok tt = sym c.test_front.ensures.verdict ∙ c.in_ok-test_front.was in
    let known : is_some (keys_with keys part.token) ≡ true = sym c.has.ensures ∙ c.if-not-has.false in
    let top = c.highest-high.ensures.value accepted is in
    let not_lower : highest accepted ≤ part.token = omega (arith, c.if-got-high.false, top) in
    let right : is_signed (keys_with keys part.token) datagram ≡ true = sym c.is_signed.ensures ∙ c.if-not-is_signed.false in
    let number : c.signed_pass-pass.result.number ≡ number_in part.nonce = ap (λ (pass : Pass1). pass.number) c.signed_pass-pass.ensures in
    let says : seen (numbers_of accepted part.token) (number_in part.nonce) ≡ answers.Fresh =
    sym (ap (λ (n : ℕ). seen (numbers_of accepted part.token) n) number) ∙ sym (c.seen.ensures.value accepted is) ∙ c.in-Fresh.is in
    ap Ok c.signed_pass-pass.ensures ∙ sym (judged_secured keys accepted part datagram c.args.payload answers.Fresh (signed_pass part datagram) front known not_lower right says)

pub returns-in-TooOld-clause-verdict : goal.returns-in-TooOld-clause-verdict
returns-in-TooOld-clause-verdict c =
    λ accepted is.
    let part = security_in c.args.part.now in
    let keys = c.args.self.now.keys in
    let datagram = c.args.datagram.now in
    let front : judged {X = Unit {0}} (front_refusals part datagram c.args.payload) tt ≡ Ok tt = sym c.test_front.ensures.verdict ∙ c.in_ok-test_front.was in
    let known : is_some (keys_with keys part.token) ≡ true = sym c.has.ensures ∙ c.if-not-has.false in
    let top = c.highest-high.ensures.value accepted is in
    let not_lower : highest accepted ≤ part.token = omega (arith, c.if-got-high.false, top) in
    let right : is_signed (keys_with keys part.token) datagram ≡ true = sym c.is_signed.ensures ∙ c.if-not-is_signed.false in
    let number : c.signed_pass-pass.result.number ≡ number_in part.nonce = ap (λ (pass : Pass1). pass.number) c.signed_pass-pass.ensures in
    let says : seen (numbers_of accepted part.token) (number_in part.nonce) ≡ answers.TooOld c.in-TooOld.high =
    sym (ap (λ (n : ℕ). seen (numbers_of accepted part.token) n) number) ∙ sym (c.seen.ensures.value accepted is) ∙ c.in-TooOld.is in
    sym (judged_secured keys accepted part datagram c.args.payload (answers.TooOld c.in-TooOld.high) (signed_pass part datagram) front known not_lower right says)
