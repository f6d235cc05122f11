-- What a passed datagram tells.
use Rattle.std.proofs.Common.{◌≡◌, ℕ, zero, suc, ◌+◌, Bool, true, false, not, ◌&&◌, List, [], ◌∷◌, length, find, refl, sym, ◌∙◌, ap, subst, arith, nat_lt, ◌==◌, Option, Some, None, Ok}
use Rattle.std.specs.Prelude.{is_some, is_none, slice_get, bytes_eq}
use Rattle.std.proofs.lemmas.Bool.Decides.{nat_tests}
use Rattle.std.proofs.lemmas.Slice.Eq.{bytes_eq-Decides}
use Rattle.hmac_sign.specs.Hmac.{hmac_sha256}
use Rattle.replay_window.specs.Taken.{is_taken, is_too_old}
use Rattle.uadp_header.specs.Headers.{SecurityValue}
use Rattle.message_guard.specs.declared.keys.TokenKeys.{TokenKeys}
use Rattle.message_guard.specs.declared.mode.Mode.{Mode}
use Rattle.message_guard.specs.declared.mode.Mode.TheVariants as modes
use Rattle.message_guard.specs.declared.open_fault.OpenFault.{OpenFault}
use Rattle.message_guard.specs.declared.open_fault.OpenFault.TheVariants as faults
use Rattle.message_guard.specs.declared.pass.Pass1.{Pass1}
use Rattle.message_guard.specs.Acceptance.{Accepted, highest, numbers_of, is_acceptable}
use Rattle.message_guard.specs.Modes.{is_secured}
use Rattle.message_guard.specs.Opened.{IsPassed}
use Rattle.message_guard.specs.Opening.{Refusals, has_mode, is_signed, secured_refusals, signed_pass, judged_by, verdict}
use Rattle.message_guard.specs.Protection.{keys_with, number_in, body_of, signature_of}
use Rattle.message_guard.proofs.Judged.{judged_by-ok}

-- where none of the tests holds, each is false
abbrev holds : Bool × OpenFault → Bool
holds test = test.0

none_at : (list : Refusals) (i : ℕ) (test : Bool × OpenFault) → find holds list ≡ None → slice_get list i ≡ Some test → test.0 ≡ false
none_at [] i test none there = cc
none_at ((true, fault) ∷ list) i test none there = cc
none_at ((false, fault) ∷ list) zero test none there =
    let same : (false, fault) ≡ test = cc in sym (ap holds same)
none_at ((false, fault) ∷ list) (suc i) test none there = none_at list i test none there

bytes_same : (xs ys : List ℕ) → bytes_eq xs ys ≡ true → xs ≡ ys
bytes_same xs ys e = (bytes_eq-Decides xs ys).0 e

not_false : (b : Bool) → not b ≡ false → b ≡ true
not_false true e = refl
not_false false e = cc

fresh : (taken old : Bool) → (taken && not old) ≡ false → old ≡ false → taken ≡ false
fresh true true both e = cc
fresh true false both e = cc
fresh false old both e = refl

all_four : (known low taken old : Bool) → known ≡ true → low ≡ false → taken ≡ false → old ≡ false
    → (known && not low && not taken && not old) ≡ true
all_four known low taken old a b c d = cc

signed_by : (mode : Mode) (keys : List TokenKeys) (accepted : Accepted) (part : SecurityValue) (datagram : List ℕ) (payload : ℕ) (o : Option TokenKeys)
    → keys_with keys part.token ≡ o → find holds ((not (has_mode mode (Some part)), faults.ModeDiffers) ∷ secured_refusals keys accepted part datagram payload) ≡ None
    → IsPassed mode keys accepted (Some part) datagram payload (signed_pass part datagram)
signed_by mode keys accepted part datagram payload None o_is none =
    let list : Refusals = (not (has_mode mode (Some part)), faults.ModeDiffers) ∷ secured_refusals keys accepted part datagram payload in
    let unknown : is_none (keys_with keys part.token) ≡ false = none_at list 5 _ none refl in
    let there : is_none (keys_with keys part.token) ≡ true = ap is_none o_is in cc
signed_by mode keys accepted part datagram payload (Some signer) o_is none =
    let list : Refusals = (not (has_mode mode (Some part)), faults.ModeDiffers) ∷ secured_refusals keys accepted part datagram payload in
    let numbers = numbers_of accepted part.token in
    let number = number_in part.nonce in
    let old : is_too_old numbers number ≡ false = none_at list 9 _ none refl in
    let taken : is_taken numbers number ≡ false = fresh (is_taken numbers number) (is_too_old numbers number) (none_at list 8 _ none refl) old in
    let low : nat_lt part.token (highest accepted) ≡ false = none_at list 6 _ none refl in
    let known : is_some (keys_with keys part.token) ≡ true = ap is_some o_is in
    let nonce : not (length part.nonce == 8) ≡ false = none_at list 3 _ none refl in
    let room : nat_lt (length datagram) (payload + 32) ≡ false = none_at list 4 _ none refl in
    let right : is_signed (keys_with keys part.token) datagram ≡ true = not_false _ (none_at list 7 _ none refl) in
    let by_signer : bytes_eq (signature_of datagram) (hmac_sha256 signer.signing (body_of datagram)) ≡ true =
    sym (ap (λ (k : Option TokenKeys). is_signed k datagram) o_is) ∙ right in
    record {
      part = part;
      told = refl;
      has_mode = not_false _ (none_at list 0 _ none refl);
      nonce = grind (arith, nat_tests);
      room = grind (arith, nat_tests);
      signer = signer;
      known = o_is;
      signature = bytes_same _ _ by_signer;
      acceptable = all_four _ _ _ _ known low taken old;
      found = refl;
    }

passed_by : (mode : Mode) (keys : List TokenKeys) (accepted : Accepted) (part : SecurityValue) (datagram : List ℕ) (payload : ℕ) (pass : Pass1)
    → judged_by (find holds ((not (has_mode mode (Some part)), faults.ModeDiffers) ∷ secured_refusals keys accepted part datagram payload)) (signed_pass part datagram) ≡ Ok pass
    → IsPassed mode keys accepted (Some part) datagram payload pass
passed_by mode keys accepted part datagram payload pass ok =
    let told = judged_by-ok (find holds ((not (has_mode mode (Some part)), faults.ModeDiffers) ∷ secured_refusals keys accepted part datagram payload)) (signed_pass part datagram) pass ok in
    subst (λ (p : Pass1). IsPassed mode keys accepted (Some part) datagram payload p) told.1
    (signed_by mode keys accepted part datagram payload (keys_with keys part.token) refl told.0)

pub passed_is : (mode : Mode) (keys : List TokenKeys) (accepted : Accepted) (security : Option SecurityValue) (datagram : List ℕ) (payload : ℕ) (pass : Pass1)
    → is_secured mode ≡ true → verdict mode keys accepted security datagram payload ≡ Ok pass → IsPassed mode keys accepted security datagram payload pass
passed_is modes.None keys accepted security datagram payload pass secured ok = cc
passed_is modes.Sign keys accepted None datagram payload pass secured ok = cc
passed_is modes.Encrypt keys accepted None datagram payload pass secured ok = cc
passed_is modes.Sign keys accepted (Some part) datagram payload pass secured ok = passed_by modes.Sign keys accepted part datagram payload pass ok
passed_is modes.Encrypt keys accepted (Some part) datagram payload pass secured ok = passed_by modes.Encrypt keys accepted part datagram payload pass ok

pub passed_acceptable : (mode : Mode) (keys : List TokenKeys) (accepted : Accepted) (security : Option SecurityValue) (datagram : List ℕ) (payload : ℕ) (pass : Pass1)
    → is_secured mode ≡ true → verdict mode keys accepted security datagram payload ≡ Ok pass → is_acceptable keys accepted pass.token pass.number ≡ true
passed_acceptable mode keys accepted security datagram payload pass secured ok =
    let is = passed_is mode keys accepted security datagram payload pass secured ok in
    subst (λ (p : Pass1). is_acceptable keys accepted p.token p.number ≡ true) (sym is.found) is.acceptable
