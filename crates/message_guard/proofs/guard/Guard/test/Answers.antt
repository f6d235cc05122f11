use Rattle.std.proofs.Common.{◌≡◌, sym, ◌∙◌, ap, true, false, not, refl}
use Rattle.std.specs.Prelude.{Some, Option, Bool}
use Rattle.std.specs.Borrow.{Bor}
use Rattle.uadp_header.specs.Headers.{security_in}
use Rattle.uadp_header.specs.declared.header.SecurityPart.{SecurityPart}
use Rattle.message_guard.specs.Guards.{security_told}
use Rattle.message_guard.specs.Modes.{is_secured}
use Rattle.message_guard.specs.Opening.{has_mode, verdict}
use Rattle.message_guard.proofs.Judging.{verdict_secured}
use Rattle.message_guard.proofs.guard.Guard.test.Goals as goal
use Rattle.message_guard.proofs.guard.Guard.test.Goals.{in_default-via-in-Some+else-is_secured, in_default-via-in_default}

pub returns-in-Some-clause-verdict : goal.returns-in-Some-clause-verdict
returns-in-Some-clause-verdict c =
    λ accepted is.
    let guard = c.args.self.now in
    let part = security_in c.in-Some.part.now in
    let datagram = c.args.datagram.now in
    let secured : is_secured guard.mode ≡ true = sym c.is_secured.ensures ∙ c.if-is_secured.true in
    let fits : has_mode guard.mode (Some part) ≡ true =
    sym (ap (λ (o : Option (Bor SecurityPart)). has_mode guard.mode (security_told o)) c.in-Some.is) ∙ sym c.has_mode.ensures ∙ c.if-not-has_mode.false in
    c.test_secured.ensures.verdict accepted is ∙ sym (verdict_secured guard.mode guard.keys accepted part datagram c.args.payload secured fits)
    ∙ sym (ap (λ (o : Option (Bor SecurityPart)). verdict guard.mode guard.keys accepted (security_told o) datagram c.args.payload) c.in-Some.is)

not_both : (b : Bool) → b ≡ true → b ≡ false → ⊥
not_both b is_true is_false = cc

not_true : (b : Bool) → not b ≡ true → b ≡ false
not_true true e = cc
not_true false e = refl

pub returns-in_default-clause-pass : goal.returns-in_default-clause-pass
returns-in_default-clause-pass c =
    let guard = c.args.self.now in
    let unsecured : is_secured guard.mode ≡ false = elim c.in_default.branch [
      | in_default-via-in-Some+else-is_secured w ↦ sym w.is_secured.ensures ∙ w.if-is_secured.false
      | in_default-via-in_default w ↦
          not_true _ (sym (ap (λ (o : Option (Bor SecurityPart)). has_mode guard.mode (security_told o)) w.in_default.is) ∙ sym c.has_mode.ensures ∙ c.if-not-has_mode.false)
    ] in
    record { known = λ secured. absurd (not_both _ secured unsecured); not_lower = λ secured. absurd (not_both _ secured unsecured); fresh = λ secured. absurd (not_both _ secured unsecured) }
