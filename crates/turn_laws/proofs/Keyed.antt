-- What a read group makes of a datagram hangs on its keys by those alone that it finds under the datagram's token; what it opens of it doesn't hang on what it accepted.
use Rattle.std.proofs.Common.{◌≡◌, refl, sym, ap, ◌∙◌, subst, arith, ℕ, ◌+◌, ◌-◌, Bool, true, false, not, ◌&&◌, ◌||◌, List, [], ◌∷◌, ◌++◌, length, take, drop, Option, Some, Result, Ok, Err, None}
use Rattle.std.specs.Prelude.{is_none, is_some, nat_le, nat_lt, slice_range}
use Rattle.std.proofs.lemmas.Bool.Decides.{nat_tests}
use Rattle.replay_window.specs.Taken.{greatest, is_taken, is_too_old}
use Rattle.uadp_header.specs.declared.fault.HeaderFault.{HeaderFault}
use Rattle.uadp_header.specs.Headers.{HeaderValue, SecurityValue}
use Rattle.uadp_header.specs.Layout.{header_at}
use Rattle.message_guard.specs.declared.keys.TokenKeys.{TokenKeys}
use Rattle.message_guard.specs.declared.mode.Mode.{Mode}
use Rattle.message_guard.specs.declared.mode.Mode.TheVariants as modes
use Rattle.message_guard.specs.declared.open_fault.OpenFault.TheVariants as faults
use Rattle.message_guard.specs.declared.pass.Pass1.{Pass1}
use Rattle.message_guard.specs.Acceptance.{Accepted, highest, is_acceptable, numbers_of}
use Rattle.message_guard.specs.Guards.{Setup}
use Rattle.message_guard.specs.Modes.{is_secured}
use Rattle.message_guard.specs.Opening as guards
use Rattle.message_guard.specs.Opening.{judged}
use Rattle.message_guard.specs.Protection.{keys_with, message_nonce, number_in}
use Rattle.message_guard.proofs.Judged.{judged-value, ok_err}
use Rattle.ps_config.specs.declared.parts.ReadGroupPart.{ReadGroupPart}
use Rattle.reader_group.specs.declared.refusal.Refusal.{Refusal}
use Rattle.reader_group.specs.declared.refusal.Refusal.TheVariants as refusals
use Rattle.reader_group.specs.Filter.{is_ours}
use Rattle.reader_group.specs.Opening.{Opened, guard_refusals, list_of, opened_as, payload_refusals, verdict, verdict_of}
use Rattle.reader_group.specs.Payloads.{payload_of}
use Rattle.group_laws.specs.TurnOpened.{is_accepted}

-- ---- the tests of a guard

abbrev tests_by : Accepted → ℕ → ℕ → List ℕ → Option TokenKeys → guards.Refusals
tests_by accepted token number datagram found =
    let taken = numbers_of accepted token in
    (is_none found, faults.UnknownToken token)
    ∷ (nat_lt token (highest accepted), faults.OldToken token (highest accepted))
    ∷ (not (guards.is_signed found datagram), faults.BadSignature)
    ∷ (is_taken taken number && not (is_too_old taken number), faults.Repeated)
    ∷ (is_too_old taken number, faults.TooOld (greatest taken))
    ∷ []

same-tests : (keys other : List TokenKeys) (accepted : Accepted) (token number : ℕ) (datagram : List ℕ) → keys_with keys token ≡ keys_with other token
    → guards.token_refusals keys accepted token number datagram ≡ guards.token_refusals other accepted token number datagram
same-tests keys other accepted token number datagram same = ap (tests_by accepted token number datagram) same

same-refusals : (mode : Mode) (keys other : List TokenKeys) (accepted : Accepted) (security : Option SecurityValue) (datagram : List ℕ) (payload : ℕ)
    → keys_with keys (guards.pass_of mode security datagram).token ≡ keys_with other (guards.pass_of mode security datagram).token
    → guards.refusals mode keys accepted security datagram payload ≡ guards.refusals mode other accepted security datagram payload
same-refusals mode keys other accepted None datagram payload same = refl
same-refusals modes.None keys other accepted (Some part) datagram payload same = refl
same-refusals modes.Sign keys other accepted (Some part) datagram payload same =
    ap (λ (l : guards.Refusals). (not (guards.has_mode modes.Sign (Some part)), faults.ModeDiffers) ∷ guards.front_refusals part datagram payload ++ l)
    (same-tests keys other accepted part.token (number_in part.nonce) datagram same)
same-refusals modes.Encrypt keys other accepted (Some part) datagram payload same =
    ap (λ (l : guards.Refusals). (not (guards.has_mode modes.Encrypt (Some part)), faults.ModeDiffers) ∷ guards.front_refusals part datagram payload ++ l)
    (same-tests keys other accepted part.token (number_in part.nonce) datagram same)

same-opened : (mode : Mode) (keys other : List TokenKeys) (first : ℕ) (pass : Pass1) (payload : ℕ) (datagram : List ℕ) → keys_with keys pass.token ≡ keys_with other pass.token
    → guards.opened mode keys first pass payload datagram ≡ guards.opened mode other first pass payload datagram
same-opened mode keys other first pass payload datagram same =
    ap (λ (found : Option TokenKeys). take payload datagram ++ guards.without_stream mode found (message_nonce pass.random pass.number) first (slice_range datagram payload pass.end) ++ drop pass.end datagram) same

-- ---- what the group makes of it

abbrev pub setup_with : Mode → ℕ → List TokenKeys → Setup
setup_with mode first keys = record { keys = keys; mode = mode; first_block = first }

abbrev opened_to : ReadGroupPart → HeaderValue → Pass1 → ℕ → List ℕ → Opened
opened_to group header pass payload bytes = record { pass = pass; payload = payload_of group.layout header.ids payload (take pass.end bytes) }

-- by the guard's tests, and the bytes that it decrypted
abbrev judged_to : ReadGroupPart → HeaderValue → Pass1 → ℕ → guards.Refusals → List ℕ → Result Opened Refusal
judged_to group header pass payload list bytes =
    judged ((not (is_ours group header), refusals.NotOurs) ∷ guard_refusals list ++ payload_refusals group.layout header.ids (drop payload (take pass.end bytes)))
    (opened_to group header pass payload bytes)

abbrev judged_by_keys : ReadGroupPart → Mode → ℕ → List TokenKeys → Accepted → List ℕ → HeaderValue → ℕ → Result Opened Refusal
judged_by_keys group mode first keys accepted datagram header payload =
    judged (list_of group (setup_with mode first keys) accepted datagram header payload) (opened_as group (setup_with mode first keys) datagram header payload)

same-judged : (group : ReadGroupPart) (mode : Mode) (first : ℕ) (keys other : List TokenKeys) (accepted : Accepted) (datagram : List ℕ) (header : HeaderValue) (payload : ℕ)
    → keys_with keys (guards.pass_of mode header.security datagram).token ≡ keys_with other (guards.pass_of mode header.security datagram).token
    → judged_by_keys group mode first keys accepted datagram header payload ≡ judged_by_keys group mode first other accepted datagram header payload
same-judged group mode first keys other accepted datagram header payload same =
    let pass = guards.pass_of mode header.security datagram in
    ap (λ (l : guards.Refusals). judged_to group header pass payload l (guards.opened mode keys first pass payload datagram)) (same-refusals mode keys other accepted header.security datagram payload same)
    ∙ ap (judged_to group header pass payload (guards.refusals mode other accepted header.security datagram payload)) (same-opened mode keys other first pass payload datagram same)

-- with other keys that have the same under the datagram's token it is opened to the same
pub other-keys : (group : ReadGroupPart) (mode : Mode) (first : ℕ) (keys other : List TokenKeys) (accepted : Accepted) (datagram : List ℕ) (opened : Opened) → verdict group (setup_with mode first keys) accepted datagram ≡ Ok opened
    → keys_with keys opened.pass.token ≡ keys_with other opened.pass.token → verdict group (setup_with mode first other) accepted datagram ≡ Ok opened
other-keys group mode first keys other accepted datagram opened is same = on (header_at datagram) is
  where
    on : (read : Result (HeaderValue × List ℕ) HeaderFault) → verdict_of group (setup_with mode first keys) accepted datagram read ≡ Ok opened → verdict_of group (setup_with mode first other) accepted datagram read ≡ Ok opened
    on (Err fault) e = e
    on (Ok read) e =
        let payload = length datagram - length read.1 in
        let pass = guards.pass_of mode read.0.security datagram in
        let value = opened_as group (setup_with mode first keys) datagram read.0 payload in
        let whole : value ≡ opened = judged-value (list_of group (setup_with mode first keys) accepted datagram read.0 payload) value opened e in
        let token : pass.token ≡ opened.pass.token = ap (λ (o : Opened). o.pass.token) whole in
        let found : keys_with keys pass.token ≡ keys_with other pass.token = subst (λ (t : ℕ). keys_with keys t ≡ keys_with other t) (sym token) same in
        sym (same-judged group mode first keys other accepted datagram read.0 payload found) ∙ e

-- and so it is, whatever was accepted
pub same-opening : (group : ReadGroupPart) (setup : Setup) (accepted other : Accepted) (datagram : List ℕ) (one opened : Opened) → verdict group setup accepted datagram ≡ Ok one → verdict group setup other datagram ≡ Ok opened → one ≡ opened
same-opening group setup accepted other datagram one opened is also = on (header_at datagram) is also
  where
    on : (read : Result (HeaderValue × List ℕ) HeaderFault) → verdict_of group setup accepted datagram read ≡ Ok one → verdict_of group setup other datagram read ≡ Ok opened → one ≡ opened
    on (Err fault) e f = ok_err (sym e)
    on (Ok read) e f =
        let payload = length datagram - length read.1 in
        let value = opened_as group setup datagram read.0 payload in
        sym (judged-value (list_of group setup accepted datagram read.0 payload) value one e) ∙ judged-value (list_of group setup other datagram read.0 payload) value opened f

-- ---- before anything was accepted

none-accepted : (keys : List TokenKeys) (token number : ℕ) (found : TokenKeys) → keys_with keys token ≡ Some found → is_acceptable keys [] token number ≡ true
none-accepted keys token number found known =
    let not_lower : nat_lt token 0 ≡ false = grind (arith, nat_tests) in
    let not_old : nat_le (number + 1024) 0 ≡ false = grind (arith, nat_tests) in
    ap (λ (o : Option TokenKeys). is_some o && not (nat_lt token 0) && not false && not (nat_le (number + 1024) 0)) known
    ∙ ap (λ (b : Bool). true && not b && not false && not (nat_le (number + 1024) 0)) not_lower
    ∙ ap (λ (b : Bool). true && not false && not false && not b) not_old

or-true : (b : Bool) → (b || true) ≡ true
or-true true = refl
or-true false = refl

-- a token of the ring is accepted with any number
pub first-accepted : (setup : Setup) (pass : Pass1) (found : TokenKeys) → keys_with setup.keys pass.token ≡ Some found → is_accepted setup [] pass ≡ true
first-accepted setup pass found known =
    ap (λ (b : Bool). not (is_secured setup.mode) || b) (none-accepted setup.keys pass.token pass.number found known) ∙ or-true (not (is_secured setup.mode))

-- a guard of another ring with the same keys of the token opens it to the same
pub other-ring : (group : ReadGroupPart) (there here : Setup) (datagram : List ℕ) (opened : Opened) (found : TokenKeys) → there.mode ≡ here.mode → there.first_block ≡ here.first_block → keys_with there.keys opened.pass.token ≡ Some found
    → keys_with here.keys opened.pass.token ≡ Some found → verdict group there [] datagram ≡ Ok opened → verdict group here [] datagram ≡ Ok opened
other-ring group there here datagram opened found mode first theirs own is =
    let moded : verdict group (setup_with here.mode there.first_block there.keys) [] datagram ≡ Ok opened =
    subst (λ (m : Mode). verdict group (setup_with m there.first_block there.keys) [] datagram ≡ Ok opened) mode is in
    let blocked : verdict group (setup_with here.mode here.first_block there.keys) [] datagram ≡ Ok opened =
    subst (λ (n : ℕ). verdict group (setup_with here.mode n there.keys) [] datagram ≡ Ok opened) first moded in
    other-keys group here.mode here.first_block there.keys here.keys [] datagram opened blocked (theirs ∙ sym own)
