-- What a guard of the sender's ring answers to its datagrams: it refuses them only for their token and number.
use Rattle.std.proofs.Common.{◌≡◌, ◌⊎◌, inl, inr, refl, sym, ap, ◌∙◌, subst, arith, ℕ, ◌+◌, Bool, true, false, not, ◌&&◌, List, [], ◌∷◌, length, Option, Some, Result, Ok, Err}
use Rattle.std.specs.Prelude.{nat_lt, nat_le, ◌==◌, is_none, is_some}
use Rattle.std.proofs.lemmas.Bool.Decides.{nat_tests}
use Rattle.uadp_header.specs.Headers.{SecurityValue}
use Rattle.message_guard.specs.declared.keys.TokenKeys.{TokenKeys}
use Rattle.message_guard.specs.declared.mode.Mode.{Mode}
use Rattle.message_guard.specs.declared.mode.Mode.TheVariants as modes
use Rattle.message_guard.specs.declared.open_fault.OpenFault.{OpenFault}
use Rattle.message_guard.specs.declared.open_fault.OpenFault.TheVariants as faults
use Rattle.message_guard.specs.declared.pass.Pass1.{Pass1}
use Rattle.message_guard.specs.Acceptance.{Accepted, is_acceptable}
use Rattle.message_guard.specs.Modes.{is_secured}
use Rattle.message_guard.specs.Opened.{MayOpen, sent_pass}
use Rattle.message_guard.specs.Opening.{Refusals, has_mode, is_signed, secured_refusals, judged, verdict, signed_pass}
use Rattle.message_guard.specs.Protection.{keys_with}
use Rattle.message_guard.specs.Senders.{SenderState, IsSender, front_value, sent}
use Rattle.message_guard.proofs.Judging.{verdict_secured}
use Rattle.message_guard.proofs.Restoring.{sent_is_passed, sent_is_found}
use Rattle.message_guard.proofs.Telling.{passed_acceptable}
use Rattle.group_laws.specs.TurnOpened.{IsOldToken, IsTooOld}

-- the refusals for a token or a number
abbrev is_number_fault : OpenFault → Bool
is_number_fault faults.ModeDiffers = false
is_number_fault faults.FooterOut = false
is_number_fault faults.KeyResetOut = false
is_number_fault (faults.BadNonceLength got) = false
is_number_fault faults.Short = false
is_number_fault (faults.UnknownToken got) = false
is_number_fault (faults.OldToken got high) = true
is_number_fault faults.BadSignature = false
is_number_fault faults.Repeated = true
is_number_fault (faults.TooOld high) = true

of-number : (fault : OpenFault) → is_number_fault fault ≡ true → IsOldToken fault ⊎ (fault ≡ faults.Repeated) ⊎ IsTooOld fault
of-number faults.ModeDiffers is = absurd (let wrong : Path Bool false true = is in cc)
of-number faults.FooterOut is = absurd (let wrong : Path Bool false true = is in cc)
of-number faults.KeyResetOut is = absurd (let wrong : Path Bool false true = is in cc)
of-number (faults.BadNonceLength got) is = absurd (let wrong : Path Bool false true = is in cc)
of-number faults.Short is = absurd (let wrong : Path Bool false true = is in cc)
of-number (faults.UnknownToken got) is = absurd (let wrong : Path Bool false true = is in cc)
of-number (faults.OldToken got high) is = inl (record { got = got; high = high; is = refl })
of-number faults.BadSignature is = absurd (let wrong : Path Bool false true = is in cc)
of-number faults.Repeated is = inr (inl refl)
of-number (faults.TooOld high) is = inr (inr (record { high = high; is = refl }))

-- no test holds but for the number
abbrev AreRight : Refusals → Type 0
AreRight [] = Unit {0}
AreRight (refusal ∷ list) = (is_number_fault refusal.1 ≡ false → refusal.0 ≡ false) × AreRight list

late-fault : {X : Type 0} (list : Refusals) (x : X) (fault : OpenFault) → AreRight list → judged list x ≡ Err fault → is_number_fault fault ≡ true
late-fault [] x fault right e = absurd (ok_err e)
  where
    ok_err : {X : Type 0} {x : X} {f : OpenFault} → Path (Result X OpenFault) (Ok x) (Err f) → ⊥
    ok_err e = cc
late-fault ((false, first) ∷ list) x fault right e = late-fault list x fault right.1 e
late-fault ((true, first) ∷ list) x fault right e = let same : first ≡ fault = cc in subst (λ (f : OpenFault). is_number_fault f ≡ true) same (on (is_number_fault first) refl)
  where
    on : (b : Bool) → is_number_fault first ≡ b → b ≡ true
    on true is = refl
    on false is = absurd (let wrong : Path Bool true false = right.0 is in cc)

abbrev NoneHolds : Refusals → Type 0
NoneHolds [] = Unit {0}
NoneHolds (refusal ∷ list) = (refusal.0 ≡ false) × NoneHolds list

none-holds : {X : Type 0} (list : Refusals) (x y : X) → judged list x ≡ Ok y → NoneHolds list
none-holds [] x y e = tt
none-holds ((false, fault) ∷ list) x y e = (refl, none-holds list x y e)
none-holds ((true, fault) ∷ list) x y e = absurd (err_ok e)
  where
    err_ok : {X : Type 0} {x : X} {f : OpenFault} → Path (Result X OpenFault) (Err f) (Ok x) → ⊥
    err_ok e = cc

-- what doesn't hang on what was accepted
record IsRightFront (keys : List TokenKeys) (part : SecurityValue) (datagram : List ℕ) (payload : ℕ) : Type 0 where
  footer : part.footer ≡ false
  reset : part.reset ≡ false
  nonce : not (length part.nonce == 8) ≡ false
  room : nat_lt (length datagram) (payload + 32) ≡ false
  known : is_none (keys_with keys part.token) ≡ false
  signed : not (is_signed (keys_with keys part.token) datagram) ≡ false

front-right : {X : Type 0} (keys : List TokenKeys) (accepted : Accepted) (part : SecurityValue) (datagram : List ℕ) (payload : ℕ) (x y : X) → judged (secured_refusals keys accepted part datagram payload) x ≡ Ok y
    → IsRightFront keys part datagram payload
front-right keys accepted part datagram payload x y e =
    let none = none-holds (secured_refusals keys accepted part datagram payload) x y e in
    record { footer = none.0; reset = none.1.0; nonce = none.1.1.0; room = none.1.1.1.0; known = none.1.1.1.1.0; signed = none.1.1.1.1.1.1.0 }

all-right : (keys : List TokenKeys) (accepted : Accepted) (part : SecurityValue) (datagram : List ℕ) (payload : ℕ) → IsRightFront keys part datagram payload → AreRight (secured_refusals keys accepted part datagram payload)
all-right keys accepted part datagram payload front =
    (λ e. front.footer, (λ e. front.reset, (λ e. front.nonce, (λ e. front.room, (λ e. front.known, (λ e. absurd (wrong e), (λ e. front.signed, (λ e. absurd (wrong e), (λ e. absurd (wrong e), tt)))))))))
  where
    wrong : Path Bool true false → ⊥
    wrong e = cc

pub mode-fits : (mode : Mode) (s : SenderState) → is_secured mode ≡ true → has_mode mode (Some (front_value mode s)) ≡ true
mode-fits modes.None s secured = absurd (let wrong : Path Bool false true = secured in cc)
mode-fits modes.Sign s secured = refl
mode-fits modes.Encrypt s secured = refl

fresh-acceptable : (keys : List TokenKeys) (token number : ℕ) (k : TokenKeys) → keys_with keys token ≡ Some k → is_acceptable keys [] token number ≡ true
fresh-acceptable keys token number k known =
    let low : nat_lt token 0 ≡ false = grind (arith, nat_tests) in
    let old : nat_le (number + 1024) 0 ≡ false = grind (arith, nat_tests) in
    ap (λ (o : Option TokenKeys). is_some o && not (nat_lt token 0) && true && not (nat_le (number + 1024) 0)) known
    ∙ ap (λ (b : Bool). not b && true && not (nat_le (number + 1024) 0)) low ∙ ap not old

-- a refusal of what a sender of the ring protected is for its token or its number
pub sent-late : (mode : Mode) (s : SenderState) (keys : List TokenKeys) (accepted : Accepted) (header payload : List ℕ) (fault : OpenFault) → is_secured mode ≡ true → IsSender s → keys_with keys s.keys.token ≡ Some s.keys
    → verdict mode keys accepted (Some (front_value mode s)) (sent mode s header payload) (length header) ≡ Err fault → IsOldToken fault ⊎ (fault ≡ faults.Repeated) ⊎ IsTooOld fault
sent-late mode s keys accepted header payload fault secured is known refused =
    let part = front_value mode s in
    let datagram = sent mode s header payload in
    let may : MayOpen mode s keys [] = record { secured = secured; random = is.random; number = is.used; known = known; acceptable = fresh-acceptable keys s.keys.token s.used s.keys known } in
    let clean = sym (verdict_secured mode keys [] part datagram (length header) secured (mode-fits mode s secured)) ∙ sent_is_passed mode s keys [] header payload may in
    let front = front-right keys [] part datagram (length header) (signed_pass part datagram) (sent_pass s header payload) clean in
    of-number fault
    (late-fault (secured_refusals keys accepted part datagram (length header)) (signed_pass part datagram) fault (all-right keys accepted part datagram (length header) front)
    (sym (verdict_secured mode keys accepted part datagram (length header) secured (mode-fits mode s secured)) ∙ refused))

-- and it isn't passed where they aren't acceptable
pub not-passed : (mode : Mode) (s : SenderState) (keys : List TokenKeys) (accepted : Accepted) (header payload : List ℕ) (pass : Pass1) → is_secured mode ≡ true → IsSender s
    → is_acceptable keys accepted s.keys.token s.used ≡ false → verdict mode keys accepted (Some (front_value mode s)) (sent mode s header payload) (length header) ≡ Ok pass → ⊥
not-passed mode s keys accepted header payload pass secured is not_acceptable passed =
    let part = front_value mode s in
    let datagram = sent mode s header payload in
    let right = passed_acceptable mode keys accepted (Some part) datagram (length header) pass secured passed in
    let found : pass ≡ sent_pass s header payload = sym (passed-found passed) ∙ sent_is_found mode s header payload is in
    let wrong : is_acceptable keys accepted s.keys.token s.used ≡ true = subst (λ (p : Pass1). is_acceptable keys accepted p.token p.number ≡ true) found right in
    let no : Path Bool false true = sym not_acceptable ∙ wrong in cc
  where
    value : {X : Type 0} (list : Refusals) (x y : X) → judged list x ≡ Ok y → x ≡ y
    value [] x y e = cc
    value ((true, f) ∷ list) x y e = absurd (let no : Path (Result _ OpenFault) (Err f) (Ok y) = e in cc)
    value ((false, f) ∷ list) x y e = value list x y e

    passed-found : verdict mode keys accepted (Some (front_value mode s)) (sent mode s header payload) (length header) ≡ Ok pass → signed_pass (front_value mode s) (sent mode s header payload) ≡ pass
    passed-found e =
        value (secured_refusals keys accepted (front_value mode s) (sent mode s header payload) (length header)) _ pass
        (sym (verdict_secured mode keys accepted (front_value mode s) (sent mode s header payload) (length header) secured (mode-fits mode s secured)) ∙ e)
