-- A matched read group opens each datagram to just what its group had for it, or refuses it for its token and number.
use Rattle.std.proofs.Common.{◌≡◌, refl, sym, ap, ◌∙◌, subst, arith, ℕ, ◌+◌, ◌-◌, Bool, true, false, not, List, ◌∷◌, ◌++◌, length, take, drop, append_assoc, length-append, Option, Some, None, Result, Ok, Err}
use Rattle.std.proofs.lemmas.List.{take_at, drop_at, take_all}
use Rattle.uadp_header.specs.Headers.{IdsValue, HeaderValue, SecurityValue}
use Rattle.uadp_header.specs.Spelling.{IsWritten, header_bytes}
use Rattle.uadp_header.proofs.Again.{header_again}
use Rattle.message_guard.specs.declared.mode.Mode.{Mode}
use Rattle.message_guard.specs.declared.mode.Mode.TheVariants as modes
use Rattle.message_guard.specs.declared.open_fault.OpenFault.{OpenFault}
use Rattle.message_guard.specs.declared.pass.Pass1.{Pass1}
use Rattle.message_guard.specs.Acceptance.{Accepted, is_acceptable}
use Rattle.message_guard.specs.Guards.{Setup}
use Rattle.message_guard.specs.Modes.{is_secured}
use Rattle.message_guard.specs.Opened.{MayOpen, sent_pass}
use Rattle.message_guard.specs.Opening as guards
use Rattle.message_guard.specs.Opening.{judged, open_pass, signed_pass, pass_of, opened}
use Rattle.message_guard.specs.Protection.{keys_with, signature_of}
use Rattle.message_guard.specs.Senders.{SenderState, IsSender, front_value, sent}
use Rattle.message_guard.proofs.Judged.{judged-value, judged_as-before, judged_as-behind}
use Rattle.message_guard.proofs.Plain.{open_is_passed, open_is_left}
use Rattle.message_guard.proofs.Restoring.{sent_is_passed, payload_restored}
use Rattle.config_tables.specs.declared.words.Layout.{Layout}
use Rattle.ps_config.specs.declared.parts.ReadGroupPart.{ReadGroupPart}
use Rattle.reader_group.specs.declared.refusal.Refusal.{Refusal}
use Rattle.reader_group.specs.declared.refusal.Refusal.TheVariants as refusals
use Rattle.reader_group.specs.Filter.{is_ours}
use Rattle.reader_group.specs.Opening.{Opened, Refusals, decrypted, guard_refusals, payload_refusals, list_of, opened_as, verdict, verdict_of}
use Rattle.reader_group.specs.Payloads.{payload_of}
use Rattle.group_laws.specs.TurnOpened.{IsNumberRefusal}
use Rattle.group_laws.proofs.Guarding.{sent-late, not-passed}
use Rattle.group_laws.proofs.PayloadsGood.{IsGood}

-- ---- a written header is read, and behind it the tests are looked at

abbrev pub tests : ReadGroupPart → Setup → Accepted → List ℕ → HeaderValue → ℕ → Result Opened Refusal
tests group setup accepted datagram header at = judged (list_of group setup accepted datagram header at) (opened_as group setup datagram header at)

payload-at : (front rest : List ℕ) → length (front ++ rest) - length rest ≡ length front
payload-at front rest = omega (arith, length-append front rest)

pub verdict-written : (group : ReadGroupPart) (setup : Setup) (accepted : Accepted) (header : HeaderValue) (rest : List ℕ) → IsWritten header
    → verdict group setup accepted (header_bytes header ++ rest) ≡ tests group setup accepted (header_bytes header ++ rest) header (length (header_bytes header))
verdict-written group setup accepted header rest is =
    ap (verdict_of group setup accepted (header_bytes header ++ rest)) (header_again header rest is)
    ∙ ap (tests group setup accepted (header_bytes header ++ rest) header) (payload-at (header_bytes header) rest)

abbrev pub behind : ReadGroupPart → Setup → Accepted → List ℕ → HeaderValue → ℕ → Refusals
behind group setup accepted datagram header at =
    guard_refusals (guards.refusals setup.mode setup.keys accepted header.security datagram at)
    ++ payload_refusals group.layout header.ids (drop at (decrypted setup (pass_of setup.mode header.security datagram) at datagram))

is-ours : (ours : Bool) (list : Refusals) (x : Opened) → ours ≡ true → judged ((not ours, refusals.NotOurs) ∷ list) x ≡ judged list x
is-ours true list x is = refl
is-ours false list x is = absurd (let wrong : Path Bool false true = is in cc)

tests-ours : (group : ReadGroupPart) (setup : Setup) (accepted : Accepted) (datagram : List ℕ) (header : HeaderValue) (at : ℕ) → is_ours group header ≡ true
    → tests group setup accepted datagram header at ≡ judged (behind group setup accepted datagram header at) (opened_as group setup datagram header at)
tests-ours group setup accepted datagram header at ours =
    is-ours (is_ours group header) (behind group setup accepted datagram header at) (opened_as group setup datagram header at) ours

-- ---- where the guard refuses it

pub refused-as : (group : ReadGroupPart) (setup : Setup) (accepted : Accepted) (header : HeaderValue) (rest : List ℕ) (fault : OpenFault) → IsWritten header → is_ours group header ≡ true
    → guards.verdict setup.mode setup.keys accepted header.security (header_bytes header ++ rest) (length (header_bytes header)) ≡ Err fault
    → verdict group setup accepted (header_bytes header ++ rest) ≡ Err (refusals.Guard fault)
refused-as group setup accepted header rest fault is ours refused =
    let datagram = header_bytes header ++ rest in
    let at = length (header_bytes header) in
    let pass = pass_of setup.mode header.security datagram in
    verdict-written group setup accepted header rest is ∙ tests-ours group setup accepted datagram header at ours
    ∙ judged_as-before refusals.Guard (guards.refusals setup.mode setup.keys accepted header.security datagram at) (payload_refusals group.layout header.ids (drop at (decrypted setup pass at datagram)))
    (opened_as group setup datagram header at) pass fault refused

-- ---- where the guard passes it

abbrev opened_of : Layout → IdsValue → Pass1 → ℕ → List ℕ → Opened
opened_of layout ids pass at bytes = record { pass = pass; payload = payload_of layout ids at bytes }

pub passed-as : (group : ReadGroupPart) (setup : Setup) (accepted : Accepted) (header : HeaderValue) (rest payload : List ℕ) (pass : Pass1) → IsWritten header → is_ours group header ≡ true
    → IsGood group.layout (header.ids, payload)
    → guards.verdict setup.mode setup.keys accepted header.security (header_bytes header ++ rest) (length (header_bytes header)) ≡ Ok pass
    → decrypted setup pass (length (header_bytes header)) (header_bytes header ++ rest) ≡ header_bytes header ++ payload
    → verdict group setup accepted (header_bytes header ++ rest) ≡ Ok (opened_of group.layout header.ids pass (length (header_bytes header)) (header_bytes header ++ payload))
passed-as group setup accepted header rest payload pass is ours good passed clear =
    let front = header_bytes header in
    let datagram = front ++ rest in
    let at = length front in
    let found = pass_of setup.mode header.security datagram in
    let G = guards.refusals setup.mode setup.keys accepted header.security datagram at in
    let P = payload_refusals group.layout header.ids (drop at (decrypted setup found at datagram)) in
    let x = opened_as group setup datagram header at in
    let by_guard = judged_as-behind refusals.Guard G P x found pass passed in
    let same : found ≡ pass = judged-value G found pass passed in
    let clear_found : decrypted setup found at datagram ≡ front ++ payload = ap (λ (p : Pass1). decrypted setup p at datagram) same ∙ clear in
    let seam : drop at (front ++ payload) ≡ payload = drop_at front payload at refl in
    let opened_is : x ≡ opened_of group.layout header.ids pass at (front ++ payload) =
    ap (λ (bytes : List ℕ). opened_of group.layout header.ids found at bytes) clear_found ∙ ap (λ (p : Pass1). opened_of group.layout header.ids p at (front ++ payload)) same in
    verdict-written group setup accepted header rest is ∙ tests-ours group setup accepted datagram header at ours ∙ by_guard
    ∙ ap (λ (bytes : List ℕ). judged (payload_refusals group.layout header.ids (drop at bytes)) x) clear_found
    ∙ ap (λ (bytes : List ℕ). judged (payload_refusals group.layout header.ids bytes) x) seam
    ∙ good.taken x ∙ ap Ok opened_is

-- ---- without security

pub taken-open : (group : ReadGroupPart) (setup : Setup) (accepted : Accepted) (header : HeaderValue) (payload : List ℕ) → setup.mode ≡ modes.None → header.security ≡ None → IsWritten header → is_ours group header ≡ true
    → IsGood group.layout (header.ids, payload)
    → verdict group setup accepted (header_bytes header ++ payload)
    ≡ Ok (opened_of group.layout header.ids (open_pass (header_bytes header ++ payload)) (length (header_bytes header)) (header_bytes header ++ payload))
taken-open group setup accepted header payload mode_is open_is is ours good =
    let front = header_bytes header in
    let datagram = front ++ payload in
    let at = length front in
    let passed : guards.verdict setup.mode setup.keys accepted header.security datagram at ≡ Ok (open_pass datagram) =
    ap (λ (m : Mode). guards.verdict m setup.keys accepted header.security datagram at) mode_is
    ∙ ap (λ (s : Option SecurityValue). guards.verdict modes.None setup.keys accepted s datagram at) open_is
    ∙ open_is_passed setup.keys accepted None datagram at refl in
    let left : opened setup.mode setup.keys setup.first_block (open_pass datagram) at datagram ≡ datagram =
    ap (λ (m : Mode). opened m setup.keys setup.first_block (open_pass datagram) at datagram) mode_is ∙ open_is_left setup.keys setup.first_block at datagram (omega (arith, length-append front payload)) in
    let clear : decrypted setup (open_pass datagram) at datagram ≡ datagram = ap (take (length datagram)) left ∙ take_all (length datagram) datagram (omega arith) in
    passed-as group setup accepted header payload payload (open_pass datagram) is ours good passed clear

-- ---- with security

-- what a sender of the ring sends to a guard of it
pub record IsSecured (setup : Setup) (mode : Mode) (s : SenderState) : Type 0 where
  pub mode_is : setup.mode ≡ mode
  pub secured : is_secured mode ≡ true
  pub sender : IsSender s
  pub known : keys_with setup.keys s.keys.token ≡ Some s.keys
  pub first_block : setup.first_block ≡ s.first_block

abbrev pub rest_of : Mode → SenderState → List ℕ → List ℕ → List ℕ
rest_of mode s front payload = drop (length front) (sent mode s front payload)

pub sent-split : (mode : Mode) (s : SenderState) (front payload : List ℕ) → sent mode s front payload ≡ front ++ rest_of mode s front payload
sent-split mode s front payload = split front _ _
  where
    split : (front a b : List ℕ) → (front ++ a) ++ b ≡ front ++ drop (length front) ((front ++ a) ++ b)
    split front a b = append_assoc front a b ∙ ap (λ (l : List ℕ). front ++ l) (sym (drop_at front (a ++ b) (length front) refl)) ∙ ap (λ (l : List ℕ). front ++ drop (length front) l) (sym (append_assoc front a b))

guard-says : (setup : Setup) (accepted : Accepted) (header : HeaderValue) (mode : Mode) (s : SenderState) (payload : List ℕ) → setup.mode ≡ mode → header.security ≡ Some (front_value mode s)
    → guards.verdict setup.mode setup.keys accepted header.security (sent mode s (header_bytes header) payload) (length (header_bytes header))
    ≡ guards.verdict mode setup.keys accepted (Some (front_value mode s)) (sent mode s (header_bytes header) payload) (length (header_bytes header))
guard-says setup accepted header mode s payload mode_is front_is =
    let datagram = sent mode s (header_bytes header) payload in
    let at = length (header_bytes header) in
    ap (λ (m : Mode). guards.verdict m setup.keys accepted header.security datagram at) mode_is
    ∙ ap (λ (f : Option SecurityValue). guards.verdict mode setup.keys accepted f datagram at) front_is

pub taken-secured : (group : ReadGroupPart) (setup : Setup) (accepted : Accepted) (header : HeaderValue) (mode : Mode) (s : SenderState) (payload : List ℕ) → IsSecured setup mode s → header.security ≡ Some (front_value mode s)
    → IsWritten header → is_ours group header ≡ true → IsGood group.layout (header.ids, payload) → is_acceptable setup.keys accepted s.keys.token s.used ≡ true
    → verdict group setup accepted (sent mode s (header_bytes header) payload)
    ≡ Ok (opened_of group.layout header.ids (sent_pass s (header_bytes header) payload) (length (header_bytes header)) (header_bytes header ++ payload))
taken-secured group setup accepted header mode s payload by front_is is ours good acceptable =
    let front = header_bytes header in
    let datagram = sent mode s front payload in
    let rest = rest_of mode s front payload in
    let at = length front in
    let pass = sent_pass s front payload in
    let may : MayOpen mode s setup.keys accepted = record { secured = by.secured; random = by.sender.random; number = by.sender.used; known = by.known; acceptable = acceptable } in
    let passed : guards.verdict setup.mode setup.keys accepted header.security datagram at ≡ Ok pass = guard-says setup accepted header mode s payload by.mode_is front_is ∙ sent_is_passed mode s setup.keys accepted front payload may in
    let restored : opened setup.mode setup.keys setup.first_block pass at datagram ≡ front ++ payload ++ signature_of datagram =
    ap (λ (m : Mode). opened m setup.keys setup.first_block pass at datagram) by.mode_is
    ∙ ap (λ (n : ℕ). opened mode setup.keys n pass at datagram) by.first_block
    ∙ payload_restored mode s setup.keys front payload by.known in
    let clear : decrypted setup pass at datagram ≡ front ++ payload = ap (take (length front + length payload)) restored ∙ take_at (front ++ payload) (signature_of datagram) (length front + length payload) (length-append front payload) in
    let whole = sent-split mode s front payload in
    ap (verdict group setup accepted) whole
    ∙ passed-as group setup accepted header rest payload pass is ours good
    (subst (λ (d : List ℕ). guards.verdict setup.mode setup.keys accepted header.security d at ≡ Ok pass) whole passed)
    (subst (λ (d : List ℕ). decrypted setup pass at d ≡ front ++ payload) whole clear)

pub late-secured : (group : ReadGroupPart) (setup : Setup) (accepted : Accepted) (header : HeaderValue) (mode : Mode) (s : SenderState) (payload : List ℕ) → IsSecured setup mode s → header.security ≡ Some (front_value mode s)
    → IsWritten header → is_ours group header ≡ true → is_acceptable setup.keys accepted s.keys.token s.used ≡ false
    → IsNumberRefusal (verdict group setup accepted (sent mode s (header_bytes header) payload))
late-secured group setup accepted header mode s payload by front_is is ours not_acceptable =
    on (guards.verdict mode setup.keys accepted (Some (front_value mode s)) (sent mode s (header_bytes header) payload) (length (header_bytes header))) refl
  where
    front : List ℕ
    front = header_bytes header

    datagram : List ℕ
    datagram = sent mode s front payload

    on : (answer : Result Pass1 OpenFault) → guards.verdict mode setup.keys accepted (Some (front_value mode s)) (sent mode s (header_bytes header) payload) (length (header_bytes header)) ≡ answer
        → IsNumberRefusal (verdict group setup accepted (sent mode s (header_bytes header) payload))
    on (Ok pass) e = absurd (not-passed mode s setup.keys accepted front payload pass by.secured by.sender not_acceptable e)
    on (Err fault) e =
        let whole = sent-split mode s front payload in
        let refused : guards.verdict setup.mode setup.keys accepted header.security datagram (length front) ≡ Err fault = guard-says setup accepted header mode s payload by.mode_is front_is ∙ e in
        let answer : verdict group setup accepted datagram ≡ Err (refusals.Guard fault) =
        ap (verdict group setup accepted) whole
        ∙ refused-as group setup accepted header (rest_of mode s front payload) fault is ours
        (subst (λ (d : List ℕ). guards.verdict setup.mode setup.keys accepted header.security d (length front) ≡ Err fault) whole refused) in
        record { fault = fault; answer_is = answer; of_number = sent-late mode s setup.keys accepted front payload fault by.secured by.sender by.known e }
