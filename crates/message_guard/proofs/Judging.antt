-- The first refusal of a list, part by part.
use Rattle.std.proofs.Common.{◌≡◌, ℕ, ◌≤◌, Bool, true, false, not, ◌&&◌, List, [], ◌∷◌, refl, ◌∙◌, ap, arith, Option, Some, None, Result, Ok, Err, nat_lt}
use Rattle.std.specs.Prelude.{if◌then◌else◌, is_none, is_some}
use Rattle.std.proofs.lemmas.Bool.Decides.{nat_tests}
use Rattle.replay_window.specs.Taken.{greatest, is_taken, is_too_old, seen}
use Rattle.replay_window.specs.declared.seen.Seen.{Seen}
use Rattle.replay_window.specs.declared.seen.Seen.TheVariants as answers
use Rattle.message_guard.specs.declared.keys.TokenKeys.{TokenKeys}
use Rattle.message_guard.specs.declared.open_fault.OpenFault.{OpenFault}
use Rattle.message_guard.specs.declared.open_fault.OpenFault.TheVariants as faults
use Rattle.message_guard.specs.Acceptance.{Accepted, highest, numbers_of}
use Rattle.message_guard.specs.Opening.{Refusals, is_signed, front_refusals, token_refusals, secured_refusals, judged, has_mode, signed_pass, verdict}
use Rattle.message_guard.specs.Modes.{is_secured}
use Rattle.message_guard.specs.declared.mode.Mode.{Mode}
use Rattle.message_guard.specs.declared.mode.Mode.TheVariants as modes
use Rattle.uadp_header.specs.Headers.{SecurityValue}
use Rattle.message_guard.specs.Protection.{keys_with, number_in}
use Rattle.message_guard.proofs.Judged.{judged-skip, judged-behind}

-- what is answered of a number, by what its window says
abbrev pub answer_of : {X : Type 0} → Seen → X → Result X OpenFault
answer_of answers.Fresh x = Ok x
answer_of answers.Repeated x = Err faults.Repeated
answer_of (answers.TooOld high) x = Err (faults.TooOld high)

by_number : {X : Type 0} (old taken : Bool) (high : ℕ) (x : X)
    → judged ((taken && not old, faults.Repeated) ∷ (old, faults.TooOld high) ∷ []) x
    ≡ answer_of (if old then answers.TooOld high else (if taken then answers.Repeated else answers.Fresh)) x
by_number true true high x = refl
by_number true false high x = refl
by_number false true high x = refl
by_number false false high x = refl

not_none : (o : Option TokenKeys) → is_some o ≡ true → is_none o ≡ false
not_none None known = cc
not_none (Some keys) known = refl

-- a known token that isn't old and a right signature leave the number to be judged
pub judged_by_number : {X : Type 0} (keys : List TokenKeys) (accepted : Accepted) (token number : ℕ) (datagram : List ℕ) (x : X)
    → is_some (keys_with keys token) ≡ true → highest accepted ≤ token → is_signed (keys_with keys token) datagram ≡ true
    → judged (token_refusals keys accepted token number datagram) x ≡ answer_of (seen (numbers_of accepted token) number) x
judged_by_number keys accepted token number datagram x known not_lower right =
    let not_old : nat_lt token (highest accepted) ≡ false = grind (arith, nat_tests) in
    let signed : not (is_signed (keys_with keys token) datagram) ≡ false = ap not right in
    let old = is_too_old (numbers_of accepted token) number in
    let taken = is_taken (numbers_of accepted token) number in
    let high = greatest (numbers_of accepted token) in
    let by_taken : Refusals = (taken && not old, faults.Repeated) ∷ (old, faults.TooOld high) ∷ [] in
    let by_signature : Refusals = (not (is_signed (keys_with keys token) datagram), faults.BadSignature) ∷ by_taken in
    let by_token : Refusals = (nat_lt token (highest accepted), faults.OldToken token (highest accepted)) ∷ by_signature in
    judged-skip (is_none (keys_with keys token)) (faults.UnknownToken token) by_token x (not_none (keys_with keys token) known)
    ∙ judged-skip (nat_lt token (highest accepted)) (faults.OldToken token (highest accepted)) by_signature x not_old
    ∙ judged-skip (not (is_signed (keys_with keys token) datagram)) faults.BadSignature by_taken x signed
    ∙ by_number old taken high x

-- the same behind a security header that isn't refused
pub judged_secured : {X : Type 0} (keys : List TokenKeys) (accepted : Accepted) (part : SecurityValue) (datagram : List ℕ) (payload : ℕ) (s : Seen) (x : X)
    → judged {X = Unit {0}} (front_refusals part datagram payload) tt ≡ Ok tt → is_some (keys_with keys part.token) ≡ true → highest accepted ≤ part.token
    → is_signed (keys_with keys part.token) datagram ≡ true → seen (numbers_of accepted part.token) (number_in part.nonce) ≡ s
    → judged (secured_refusals keys accepted part datagram payload) x ≡ answer_of s x
judged_secured keys accepted part datagram payload s x front known not_lower right says =
    judged-behind (front_refusals part datagram payload) (token_refusals keys accepted part.token (number_in part.nonce) datagram) x tt tt front
    ∙ judged_by_number keys accepted part.token (number_in part.nonce) datagram x known not_lower right
    ∙ ap (λ (answer : Seen). answer_of answer x) says

-- what is said of a datagram with a security header of the mode
pub verdict_secured : (mode : Mode) (keys : List TokenKeys) (accepted : Accepted) (part : SecurityValue) (datagram : List ℕ) (payload : ℕ)
    → is_secured mode ≡ true → has_mode mode (Some part) ≡ true
    → verdict mode keys accepted (Some part) datagram payload ≡ judged (secured_refusals keys accepted part datagram payload) (signed_pass part datagram)
verdict_secured modes.None keys accepted part datagram payload secured fits = cc
verdict_secured modes.Sign keys accepted part datagram payload secured fits =
    judged-skip (not (has_mode modes.Sign (Some part))) faults.ModeDiffers (secured_refusals keys accepted part datagram payload) (signed_pass part datagram) (ap not fits)
verdict_secured modes.Encrypt keys accepted part datagram payload secured fits =
    judged-skip (not (has_mode modes.Encrypt (Some part))) faults.ModeDiffers (secured_refusals keys accepted part datagram payload) (signed_pass part datagram) (ap not fits)
