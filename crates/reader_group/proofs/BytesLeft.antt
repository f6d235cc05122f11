-- What a datagram's bytes are once a read group had it.
use Rattle.std.proofs.Common.{◌≡◌, refl, sym, ap, ◌∙◌, arith, ℕ, ◌+◌, ◌-◌, ◌≤◌, Bool, true, false, List, ◌++◌, length, take, drop, length-drop, append_assoc, Option, Some, None}
use Rattle.std.specs.Prelude.{Ok, Err, if◌then◌else◌}
use Rattle.std.proofs.lemmas.List.{drop-drop, take-append-drop}
use Rattle.uadp_header.specs.declared.fault.HeaderFault.{HeaderFault}
use Rattle.uadp_header.specs.Headers.{HeaderValue}
use Rattle.uadp_header.specs.Layout.{header_at}
use Rattle.message_guard.specs.declared.keys.TokenKeys.{TokenKeys}
use Rattle.message_guard.specs.declared.mode.Mode.{Mode}
use Rattle.message_guard.specs.declared.open_fault.OpenFault.{OpenFault}
use Rattle.message_guard.specs.declared.pass.Pass1.{Pass1}
use Rattle.message_guard.specs.Acceptance.{Accepted}
use Rattle.message_guard.specs.Guards.{Setup}
use Rattle.message_guard.specs.Modes.{encrypts}
use Rattle.message_guard.specs.Protection.{keys_with, message_nonce}
use Rattle.message_guard.specs.Opening as guards
use Rattle.ps_config.specs.declared.parts.ReadGroupPart.{ReadGroupPart}
use Rattle.reader_group.specs.declared.begun.Begun.{Begun}
use Rattle.reader_group.specs.Filter.{is_ours}
use Rattle.reader_group.specs.Opening.{bytes_left, left_judged, left_read}
use Rattle.reader_group.specs.Begun.{HasBegun}

-- ---- what isn't decrypted

pub left-unread : (group : ReadGroupPart) (setup : Setup) (accepted : Accepted) (datagram : List ℕ) (fault : HeaderFault) → header_at datagram ≡ Err fault → bytes_left group setup accepted datagram ≡ datagram
left-unread group setup accepted datagram fault read = ap (left_read group setup accepted datagram) read

left-at : (group : ReadGroupPart) (setup : Setup) (accepted : Accepted) (datagram : List ℕ) (header : HeaderValue) (payload : ℕ) → header_at datagram ≡ Ok (header, drop payload datagram) → payload ≤ length datagram
    → bytes_left group setup accepted datagram
    ≡ (if is_ours group header then left_judged setup payload datagram (guards.verdict setup.mode setup.keys accepted header.security datagram payload) else datagram)
left-at group setup accepted datagram header payload read within =
    let at : length datagram - length (drop payload datagram) ≡ payload = omega (arith, length-drop payload datagram, within) in
    ap (left_read group setup accepted datagram) read
    ∙ ap (λ (n : ℕ). if is_ours group header then left_judged setup n datagram (guards.verdict setup.mode setup.keys accepted header.security datagram n) else datagram) at

not-judged : (ours : Bool) (l datagram : List ℕ) → ours ≡ false → (if ours then l else datagram) ≡ datagram
not-judged false l datagram e = refl
not-judged true l datagram e = absurd (let wrong : Path Bool true false = e in cc)

is-judged : (ours : Bool) (l datagram : List ℕ) → ours ≡ true → (if ours then l else datagram) ≡ l
is-judged true l datagram e = refl
is-judged false l datagram e = absurd (let wrong : Path Bool false true = e in cc)

pub left-others : (group : ReadGroupPart) (setup : Setup) (accepted : Accepted) (datagram : List ℕ) (header : HeaderValue) (payload : ℕ) → header_at datagram ≡ Ok (header, drop payload datagram) → payload ≤ length datagram
    → is_ours group header ≡ false → bytes_left group setup accepted datagram ≡ datagram
left-others group setup accepted datagram header payload read within ours =
    left-at group setup accepted datagram header payload read within ∙ not-judged (is_ours group header) _ datagram ours

pub left-refused : (group : ReadGroupPart) (setup : Setup) (accepted : Accepted) (datagram : List ℕ) (header : HeaderValue) (payload : ℕ) (fault : OpenFault) → header_at datagram ≡ Ok (header, drop payload datagram)
    → payload ≤ length datagram → is_ours group header ≡ true → guards.verdict setup.mode setup.keys accepted header.security datagram payload ≡ Err fault → bytes_left group setup accepted datagram ≡ datagram
left-refused group setup accepted datagram header payload fault read within ours refused =
    left-at group setup accepted datagram header payload read within ∙ is-judged (is_ours group header) _ datagram ours ∙ ap (left_judged setup payload datagram) refused

-- ---- what is

no-stream : (mode : Mode) (keys : Option TokenKeys) (nonce : List ℕ) (first_block : ℕ) (bytes : List ℕ) → encrypts mode ≡ false → guards.without_stream mode keys nonce first_block bytes ≡ bytes
no-stream mode None nonce first_block bytes e = refl
no-stream mode (Some keys) nonce first_block bytes e = rw e refl

-- with no stream what is opened is as it came
opened-same : (setup : Setup) (pass : Pass1) (payload : ℕ) (datagram : List ℕ) → payload ≤ pass.end → encrypts setup.mode ≡ false
    → guards.opened setup.mode setup.keys setup.first_block pass payload datagram ≡ datagram
opened-same setup pass payload datagram order e =
    let size = pass.end - payload in
    let behind = drop payload datagram in
    let keys = keys_with setup.keys pass.token in
    let nonce = message_nonce pass.random pass.number in
    let whole : pass.end ≡ payload + size = omega (arith, order) in
    let last : drop pass.end datagram ≡ drop size behind = ap (λ (n : ℕ). drop n datagram) whole ∙ sym (drop-drop size payload datagram) in
    append_assoc (take payload datagram) (guards.without_stream setup.mode keys nonce setup.first_block (take size behind)) (drop pass.end datagram)
    ∙ ap (λ (xs : List ℕ). take payload datagram ++ (xs ++ drop pass.end datagram)) (no-stream setup.mode keys nonce setup.first_block (take size behind) e)
    ∙ ap (λ (xs : List ℕ). take payload datagram ++ (take size behind ++ xs)) last
    ∙ ap (λ (xs : List ℕ). take payload datagram ++ xs) (take-append-drop size behind)
    ∙ take-append-drop payload datagram

judged-opened : (setup : Setup) (pass : Pass1) (payload : ℕ) (datagram : List ℕ) → payload ≤ pass.end
    → left_judged setup payload datagram (Ok pass) ≡ guards.opened setup.mode setup.keys setup.first_block pass payload datagram
judged-opened setup pass payload datagram order = on (encrypts setup.mode) refl
  where
    on : (b : Bool) → encrypts setup.mode ≡ b
        → (if encrypts setup.mode then guards.opened setup.mode setup.keys setup.first_block pass payload datagram else datagram) ≡ guards.opened setup.mode setup.keys setup.first_block pass payload datagram
    on true e = is-judged (encrypts setup.mode) _ datagram e
    on false e = not-judged (encrypts setup.mode) _ datagram e ∙ sym (opened-same setup pass payload datagram order e)

pub left-opened : (group : ReadGroupPart) (setup : Setup) (accepted : Accepted) (datagram bytes : List ℕ) (begun : Begun) (kept : List ℕ) → begun.payload ≤ begun.pass.end
    → HasBegun group setup accepted datagram begun kept → bytes ≡ guards.opened setup.mode setup.keys setup.first_block begun.pass begun.payload datagram
    → bytes ≡ bytes_left group setup accepted datagram
left-opened group setup accepted datagram bytes begun kept order h is =
    is
    ∙ sym (left-at group setup accepted datagram h.header begun.payload h.read h.within
    ∙ is-judged (is_ours group h.header) _ datagram h.ours
    ∙ ap (left_judged setup begun.payload datagram) h.passed
    ∙ judged-opened setup begun.pass begun.payload datagram order)
