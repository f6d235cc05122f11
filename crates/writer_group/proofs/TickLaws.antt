-- A turn of a group: what its parts made is what the definitions say.
use Rattle.std.proofs.Common.{◌≡◌, ℕ, suc, ◌+◌, ◌%◌, Bool, true, false, List, [], ◌∷◌, ◌++◌, length, map, nat_lt, refl, sym, ap, subst, ◌∙◌, arith, Option, Some, None}
use Rattle.std.specs.Prelude.{option_map, slice_index_or, if◌then◌else◌}
use Rattle.std.specs.List.{cons_option, flat_map}
use Rattle.uadp_header.specs.Headers.{HeaderValue, IdsValue, NoIds, SecurityValue}
use Rattle.fixed_layout.specs.declared.slot.Slot.{Slot}
use Rattle.fixed_layout.specs.Datagrams.{fixed_payload}
use Rattle.pubsub_model.specs.Cadence.{WriterDeed, WriterTurn, HadTurn}
use Rattle.message_guard.specs.Senders.{SenderState, front_value, sent}
use Rattle.uadp_header.specs.Spelling.{IsWritten, header_bytes}
use Rattle.config_tables.specs.declared.words.Layout.{Layout}
use Rattle.config_tables.specs.declared.words.Layout.TheVariants as layout
use Rattle.payload_layout.specs.Packing.{packs_of}
use Rattle.ps_config.specs.declared.parts.Config.{Config}
use Rattle.ps_config.specs.declared.parts.GroupPart.{GroupPart}
use Rattle.ps_config.specs.Rooms.{chunk_room, is_fixed}
use Rattle.ps_config.specs.Headers.{mode_of}
use Rattle.writer_group.specs.declared.load.Load.TheVariants as loads
use Rattle.writer_group.specs.Answering.{deeds_with, with_turn}
use Rattle.writer_group.specs.Envelopes.{frame_room, number_if, numbered_header}
use Rattle.writer_group.specs.Holding.{CargoValue, payload_in}
use Rattle.writer_group.specs.Making.{loads_by}
use Rattle.writer_group.specs.Payloads.{Spelled, fixed_header, pack_payloads, payloads_by, size_of, slots_of}
use Rattle.writer_group.specs.Planning.{planned}
use Rattle.writer_group.specs.Sealing.{AreWritten, Envelope, Payload, advanced_by, datagram_at, datagrams_from, header_at}
use Rattle.writer_group.specs.Turns.{GroupDeed, GroupTurn, HadGroupTurn, took_by, writer_past}
use Rattle.writer_group.proofs.LoadPayloads.{payloads-planned}

-- ---- numbers of 16 bits

mod-add : (a b : ℕ) → (a % 65536 + b) % 65536 ≡ (a + b) % 65536
mod-add a b = omega arith

number-same : (holds : Bool) (m n : ℕ) → m % 65536 ≡ n % 65536 → number_if holds m ≡ number_if holds n
number-same true m n same = ap (λ (k : ℕ). Some k) same
number-same false m n same = refl

abbrev with_made : Envelope → ℕ → Envelope
with_made e made = record { publisher = e.publisher; settings = e.settings; made = made }

header-same : (e : Envelope) (made index : ℕ) (security : Option SecurityValue) (ids : IdsValue) → e.made ≡ made % 65536
    → numbered_header e.publisher e.settings (record { sequence = e.made + index; message = index + 1; security = security }) ids
    ≡ numbered_header e.publisher e.settings (record { sequence = made + index; message = index + 1; security = security }) ids
header-same e made index security ids is =
    let numbers : (e.made + index) % 65536 ≡ (made + index) % 65536 = ap (λ (n : ℕ). (n + index) % 65536) is ∙ mod-add made index in
    ap (λ (n : Option ℕ). let h : HeaderValue = record {
      publisher = (numbered_header e.publisher e.settings (record { sequence = 0; message = index + 1; security = security }) ids).publisher;
      class_id = e.settings.class_id;
      group = Some e.settings.id;
      version = (numbered_header e.publisher e.settings (record { sequence = 0; message = index + 1; security = security }) ids).version;
      message_number = number_if e.settings.message_number (index + 1);
      sequence = n;
      ids = ids;
      security = security;
    } in h) (number-same e.settings.sequence (e.made + index) (made + index) numbers)

datagram-same : (e : Envelope) (made : ℕ) (sender : Option SenderState) (index : ℕ) (payload : Payload) → e.made ≡ made % 65536
    → datagram_at e sender index payload ≡ datagram_at (with_made e made) sender index payload
datagram-same e made None index payload is =
    ap (λ (h : HeaderValue). header_bytes h ++ payload.1) (header-same e made index None payload.0 is)
datagram-same e made (Some s) index payload is =
    let mode = mode_of e.settings.security in
    let now = advanced_by mode s (suc index) in
    ap (λ (h : HeaderValue). sent mode now (header_bytes h) payload.1) (header-same e made index (Some (front_value mode now)) payload.0 is)

pub datagrams-same : (e : Envelope) (made : ℕ) (sender : Option SenderState) (index : ℕ) (payloads : List Payload) → e.made ≡ made % 65536
    → datagrams_from e sender index payloads ≡ datagrams_from (with_made e made) sender index payloads
datagrams-same e made sender index [] is = refl
datagrams-same e made sender index (payload ∷ payloads) is =
    ap (λ (x : List ℕ). x ∷ datagrams_from e sender (index + 1) payloads) (datagram-same e made sender index payload is)
    ∙ ap (λ (l : List (List ℕ)). datagram_at (with_made e made) sender index payload ∷ l) (datagrams-same e made sender (index + 1) payloads is)

header-at-same : (e : Envelope) (made : ℕ) (sender : Option SenderState) (index : ℕ) (ids : IdsValue) → e.made ≡ made % 65536 → header_at e sender index ids ≡ header_at (with_made e made) sender index ids
header-at-same e made None index ids is = header-same e made index None ids is
header-at-same e made (Some s) index ids is =
    header-same e made index (Some (front_value (mode_of e.settings.security) (advanced_by (mode_of e.settings.security) s (suc index)))) ids is

pub written-same : (e : Envelope) (made : ℕ) (sender : Option SenderState) (index : ℕ) (payloads : List Payload) → e.made ≡ made % 65536
    → AreWritten e sender index payloads → AreWritten (with_made e made) sender index payloads
written-same e made sender index [] is written = tt
written-same e made sender index (payload ∷ payloads) is written =
    (subst IsWritten (header-at-same e made sender index payload.0 is) written.0, written-same e made sender (index + 1) payloads is written.1)

-- ---- payloads

-- the frames of a turn, in the memory of its group
pub record IsCargoOf (config : Config) (part : GroupPart) (cargo : CargoValue) (frames : List Spelled) : Type 0 where
  pub frames_are : cargo.frames ≡ frames
  pub room : cargo.room ≡ chunk_room config.publisher.id part
  pub start : cargo.start ≡ fixed_header config.publisher.id part
  pub slots : is_fixed part.layout ≡ true → cargo.slots ≡ slots_of config part

pub dynamic-payloads : (config : Config) (part : GroupPart) (cargo : CargoValue) (frames : List Spelled) → IsCargoOf config part cargo frames
    → map (payload_in cargo) (planned (frame_room config.publisher.id part) (chunk_room config.publisher.id part) (map size_of frames))
    ≡ flat_map (pack_payloads (chunk_room config.publisher.id part)) (packs_of size_of (frame_room config.publisher.id part) frames)
dynamic-payloads config part cargo frames is =
    let room = frame_room config.publisher.id part in
    ap (λ (n : ℕ). map (payload_in cargo) (planned room n (map size_of frames))) (sym is.room)
    ∙ ap (λ (l : List Spelled). map (payload_in cargo) (planned room cargo.room (map size_of l))) (sym is.frames_are)
    ∙ payloads-planned cargo room
    ∙ ap (λ (l : List Spelled). flat_map (pack_payloads cargo.room) (packs_of size_of room l)) is.frames_are
    ∙ ap (λ (n : ℕ). flat_map (pack_payloads n) (packs_of size_of room frames)) is.room

abbrev one_slots : ℕ → List Slot → List Spelled → Payload
one_slots start slots frames = (NoIds, fixed_payload start slots (map (λ (f : Spelled). (f.writer, f.bytes)) frames))

pub fixed-payloads : (config : Config) (part : GroupPart) (cargo : CargoValue) (frames : List Spelled) → IsCargoOf config part cargo frames → is_fixed part.layout ≡ true
    → map (payload_in cargo) (loads_by layout.Fixed config.publisher.id part (map size_of frames)) ≡ payloads_by layout.Fixed config part frames
fixed-payloads config part cargo frames is fixed = by_writers (nat_lt 0 (length part.writer))
  where
    by_writers : (b : Bool) → map (payload_in cargo) (if b then loads.Slots ∷ [] else [])
        ≡ (if b then (NoIds, fixed_payload (fixed_header config.publisher.id part) (slots_of config part) (map (λ (f : Spelled). (f.writer, f.bytes)) frames)) ∷ [] else [])
    by_writers true =
        ap (λ (l : List Spelled). one_slots cargo.start cargo.slots l ∷ []) is.frames_are
        ∙ ap (λ (n : ℕ). one_slots n cargo.slots frames ∷ []) is.start
        ∙ ap (λ (l : List Slot). one_slots (fixed_header config.publisher.id part) l frames ∷ []) (is.slots fixed)
    by_writers false = refl

pub payloads-of-loads : (config : Config) (part : GroupPart) (cargo : CargoValue) (frames : List Spelled) → IsCargoOf config part cargo frames
    → map (payload_in cargo) (loads_by part.layout config.publisher.id part (map size_of frames)) ≡ payloads_by part.layout config part frames
payloads-of-loads config part cargo frames is = by_layout part.layout refl
  where
    by_layout : (l : Layout) → part.layout ≡ l → map (payload_in cargo) (loads_by l config.publisher.id part (map size_of frames)) ≡ payloads_by l config part frames
    by_layout layout.Dynamic same = dynamic-payloads config part cargo frames is
    by_layout layout.Fixed same = fixed-payloads config part cargo frames is (ap is_fixed same)

-- ---- where it leaves the group

taken-deed : (took : Option WriterTurn) (deeds : List WriterDeed) → with_turn took deeds ≡ cons_option (option_map HadTurn took) deeds
taken-deed None deeds = refl
taken-deed (Some turn) deeds = refl

pub deeds-after : (writer : ℕ) (past : List GroupDeed) (turn : GroupTurn) → deeds_with writer past (slice_index_or turn.took writer None) ≡ writer_past writer (HadGroupTurn turn ∷ past)
deeds-after writer past turn = taken-deed (took_by writer turn) (writer_past writer past)

pub made-after : (made count before : ℕ) → made ≡ before % 65536 → (made + count) % 65536 ≡ (count + before) % 65536
made-after made count before is =
    let turned : before + count ≡ count + before = omega arith in
    ap (λ (n : ℕ). (n + count) % 65536) is ∙ mod-add before count ∙ ap (λ (n : ℕ). n % 65536) turned
