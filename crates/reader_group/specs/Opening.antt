-- What a read group makes of a datagram before a reader is given any of it: it is refused for the first of one list of tests that holds, or opened.
use Rattle.std.specs.Prelude.{ℕ, ◌+◌, ◌-◌, ◌*◌, List, [], ◌∷◌, ◌++◌, length, map, take, drop, sum, Bool, false, not, ◌&&◌, nat_lt, Option, Some, None, Result, Ok, Err, if◌then◌else◌}
use Rattle.uadp_header.specs.declared.fault.HeaderFault.{HeaderFault}
use Rattle.uadp_header.specs.Headers.{IdsValue, NoIds, ListOf, ChunkOf, HeaderValue, ids_of}
use Rattle.uadp_header.specs.Layout.{header_at}
use Rattle.uadp_header.specs.Spelling.{has_ids}
use Rattle.payload_layout.specs.Payloads.{sizes_of}
use Rattle.message_guard.specs.declared.open_fault.OpenFault.{OpenFault}
use Rattle.message_guard.specs.declared.pass.Pass1.{Pass1}
use Rattle.message_guard.specs.Acceptance.{Accepted}
use Rattle.message_guard.specs.Guards.{Setup}
use Rattle.message_guard.specs.Modes.{encrypts}
use Rattle.message_guard.specs.Opening as guards
use Rattle.message_guard.specs.Opening.{judged}
use Rattle.config_tables.specs.declared.words.Layout.{Layout}
use Rattle.ps_config.specs.declared.parts.ReadGroupPart.{ReadGroupPart}
use Rattle.ps_config.specs.Rooms.{is_fixed}
use Rattle.reader_group.specs.declared.refusal.Refusal.{Refusal}
use Rattle.reader_group.specs.declared.refusal.Refusal.TheVariants as refusals
use Rattle.reader_group.specs.Filter.{is_any_or, is_ours}
use Rattle.reader_group.specs.Payloads.{Payload, payload_of}

-- a datagram that is taken: what its guard found, and what it has for the readers
pub record Opened : Type 0 where
  pub pass : Pass1
  pub payload : Payload

-- the datagram decrypted, without its signature
abbrev pub decrypted : Setup → Pass1 → ℕ → List ℕ → List ℕ
decrypted setup pass payload datagram =
    take pass.end (guards.opened setup.mode setup.keys setup.first_block pass payload datagram)

-- so many messages, more than one, whose sizes pass the payload's end, or which do so themselves: the test of `HasBadSizes`
abbrev pub are_past : ℕ → List ℕ → Bool
are_past count payload =
    nat_lt 1 count && nat_lt (length payload) (2 * count + sum (sizes_of count payload))

abbrev pub has_bad_sizes : IdsValue → List ℕ → Bool
has_bad_sizes NoIds payload = false
has_bad_sizes (ListOf bytes) payload = are_past (length (ids_of bytes)) payload
has_bad_sizes (ChunkOf id) payload = false

-- a test, and the refusal where it holds
abbrev pub Refusals : Type 0
Refusals = List (Bool × Refusal)

-- those of the guard
abbrev pub guard_refusals : List (Bool × OpenFault) → Refusals
guard_refusals list = map (λ (test : Bool × OpenFault). (test.0, refusals.Guard test.1)) list

-- those of the payload, which is decrypted
abbrev pub payload_refusals : Layout → IdsValue → List ℕ → Refusals
payload_refusals layout ids payload =
    (not (is_fixed layout) && not (has_ids ids), refusals.NoIds)
    ∷ (not (is_fixed layout) && has_bad_sizes ids payload, refusals.BadSizes)
    ∷ []

-- All refusals of a datagram with this header, which ends at `payload`, in their order, each with its test. The guard has accepted these pairs so far.
abbrev pub list_of : ReadGroupPart → Setup → Accepted → List ℕ → HeaderValue → ℕ → Refusals
list_of group setup accepted datagram header payload =
    let pass = guards.pass_of setup.mode header.security datagram in
    (not (is_ours group header), refusals.NotOurs)
    ∷ guard_refusals (guards.refusals setup.mode setup.keys accepted header.security datagram payload)
    ++ payload_refusals group.layout header.ids (drop payload (decrypted setup pass payload datagram))

abbrev pub opened_as : ReadGroupPart → Setup → List ℕ → HeaderValue → ℕ → Opened
opened_as group setup datagram header payload =
    let pass = guards.pass_of setup.mode header.security datagram in
    record { pass = pass; payload = payload_of group.layout header.ids payload (decrypted setup pass payload datagram) }

abbrev pub verdict_of : ReadGroupPart → Setup → Accepted → List ℕ → Result (HeaderValue × List ℕ) HeaderFault → Result Opened Refusal
verdict_of group setup accepted datagram (Err fault) = Err (refusals.Header fault)
verdict_of group setup accepted datagram (Ok read) =
    let payload = length datagram - length read.1 in
    judged (list_of group setup accepted datagram read.0 payload) (opened_as group setup datagram read.0 payload)

-- what the read group makes of a datagram
abbrev pub verdict : ReadGroupPart → Setup → Accepted → List ℕ → Result Opened Refusal
verdict group setup accepted datagram = verdict_of group setup accepted datagram (header_at datagram)

-- why a datagram whose header was read so is refused, by a group that asks for this NetworkMessageNumber too, where the header alone tells
abbrev pub refusal_read : ReadGroupPart → ℕ → Result (HeaderValue × List ℕ) HeaderFault → Option Refusal
refusal_read group number (Err fault) = Some (refusals.Header fault)
refusal_read group number (Ok read) =
    if is_any_or number read.0.message_number && is_ours group read.0 then None else Some refusals.NotOurs

-- the bytes of a datagram that the guard judged so: decrypted where its mode encrypts and it passes the datagram
abbrev pub left_judged : Setup → ℕ → List ℕ → Result Pass1 OpenFault → List ℕ
left_judged setup payload datagram (Err fault) = datagram
left_judged setup payload datagram (Ok pass) =
    if encrypts setup.mode
    then guards.opened setup.mode setup.keys setup.first_block pass payload datagram
    else datagram

-- the bytes of a datagram whose header was read so
abbrev pub left_read : ReadGroupPart → Setup → Accepted → List ℕ → Result (HeaderValue × List ℕ) HeaderFault → List ℕ
left_read group setup accepted datagram (Err fault) = datagram
left_read group setup accepted datagram (Ok read) =
    let payload = length datagram - length read.1 in
    if is_ours group read.0
    then left_judged setup payload datagram (guards.verdict setup.mode setup.keys accepted read.0.security datagram payload)
    else datagram

-- What a datagram's bytes are once the group had it. Those of one that isn't encrypted, or is refused for its header, by the filter or by the guard, are as they
-- came; else what stands between the header and the signature is decrypted, also where the datagram is refused for its payload then.
abbrev pub bytes_left : ReadGroupPart → Setup → Accepted → List ℕ → List ℕ
bytes_left group setup accepted datagram = left_read group setup accepted datagram (header_at datagram)
