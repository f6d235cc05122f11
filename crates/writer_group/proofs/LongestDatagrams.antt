-- No datagram of a turn is longer than its group's largest may be.
use Rattle.std.proofs.Common.{◌≡◌, ℕ, suc, ◌+◌, ◌-◌, ◌*◌, ◌/◌, ◌<◌, ◌≤◌, Bool, true, false, List, [], ◌∷◌, length, map, drop, get_or, is_some, nat_lt, refl, sym, ap, ◌∙◌, arith, Option, Some, None, All}
use Rattle.std.specs.Prelude.{IfSome, nat_le, sum_by, if◌then◌else◌}
use Rattle.std.specs.Int.{w16, to_le_bytes}
use Rattle.std.specs.List.{flat_map, range_with_len}
use Rattle.std.proofs.lemmas.Bool.{and_parts, false≢true, leb-true}
use Rattle.std.proofs.lemmas.List.{length-append, length-map, length-take}
use Rattle.std.proofs.lemmas.List.Elements.{All-append, All-cons, All-head, All-map, All-nil, All-tail}
use Rattle.std.proofs.lemmas.List.Sums.{sum_by-cons}
use Rattle.ua_binary.specs.Wire.{flag}
use Rattle.uadp_header.specs.Headers.{ChunkOf, IdsValue, ListOf}
use Rattle.uadp_header.specs.Spelling.{header_bytes, header_len, ids_len, is_chunk, len_if}
use Rattle.uadp_header.proofs.Lengths.{length-header}
use Rattle.payload_layout.specs.Packing.{IsSound, Packed, fits, payload_size}
use Rattle.payload_layout.proofs.Counted.{payload-counted}
use Rattle.payload_layout.proofs.Laid.{length-sizes}
use Rattle.chunker.specs.Chunks.{Chunk, cut_at}
use Rattle.chunker.proofs.SpellingLaws.{chunk-long}
use Rattle.message_guard.specs.Modes.{is_secured as is_secured_mode}
use Rattle.message_guard.specs.Protection.{message_nonce}
use Rattle.message_guard.specs.Senders.{IsSender, SenderState, front_value}
use Rattle.message_guard.proofs.Restoring.{length-nonce}
use Rattle.config_tables.specs.declared.publisher.Publisher.{Publisher}
use Rattle.config_tables.specs.declared.words.Security.{Security}
use Rattle.config_tables.specs.declared.words.Security.TheVariants as security
use Rattle.ps_config.specs.declared.parts.Config.{Config}
use Rattle.ps_config.specs.declared.parts.GroupPart.{GroupPart}
use Rattle.ps_config.specs.Headers.{header_of, is_secured, signature_len, mode_of}
use Rattle.ps_config.specs.Rooms.{chunk_room, header_settings}
use Rattle.writer_group.specs.Envelopes.{frame_room}
use Rattle.writer_group.specs.Payloads.{Spelled, chunk_payload, chunk_payloads, fixed_header, frames_payload, pack_payloads, size_of}
use Rattle.writer_group.specs.Sealing.{Payload, advanced_by, datagram_at, datagrams_from, header_at, open_header, secured_header, envelope_with}
use Rattle.writer_group.proofs.DatagramSizes.{length-sent}
use Rattle.writer_group.proofs.HeaderLengths.{numbered-len, one-writer}
use Rattle.writer_group.proofs.Joining.{advanced-random}
use Rattle.writer_group.proofs.Posts.{fronted-as, open-as}
use Rattle.writer_group.proofs.Totals.{HasByte, each-left}

-- ---- the length of a datagram

-- a sender is there exactly where the group is secured, and a class id has its bytes
pub record IsSealedBy (part : GroupPart) (sender : Option SenderState) : Type 0 where
  pub there : is_some sender ≡ is_secured part.security
  pub sender_is : IfSome sender IsSender
  pub class_id : len_if length part.class_id ≡ flag (is_some part.class_id) 16

unsigned : (kind : Security) → false ≡ is_secured kind → (is_secured_mode (mode_of kind) ≡ false) × (signature_len kind ≡ 0)
unsigned security.None there = (refl, refl)
unsigned security.Sign there = absurd (false≢true there)
unsigned security.Encrypt there = absurd (false≢true there)

signed : (kind : Security) → true ≡ is_secured kind → (is_secured_mode (mode_of kind) ≡ true) × (signature_len kind ≡ 32)
signed security.None there = absurd (false≢true (sym there))
signed security.Sign there = (refl, refl)
signed security.Encrypt there = (refl, refl)

header-as : (config : Config) (part : GroupPart) (made : ℕ) (sender : Option SenderState) (index : ℕ) (ids other : IdsValue) → IsSealedBy part sender → is_chunk ids ≡ is_chunk other → ids_len ids ≡ ids_len other
    → header_len (header_at (envelope_with config part made) sender index ids) ≡ header_len (header_of config.publisher.id (header_settings part) other)
header-as config part made None index ids other is chunk long =
    numbered-len config.publisher.id (header_settings part) (record { sequence = made + index; message = index + 1; security = None }) ids other
    (open-as (header_settings part) (unsigned part.security is.there).0) chunk long
header-as config part made (Some s) index ids other is chunk long =
    let mode = mode_of part.security in
    let now = advanced_by mode s (suc index) in
    let nonce : length (message_nonce now.random now.used) ≡ 8 = length-nonce now.random now.used (ap length (advanced-random mode s (suc index)) ∙ is.sender_is.random) in
    numbered-len config.publisher.id (header_settings part) (record { sequence = made + index; message = index + 1; security = Some (front_value mode now) }) ids other
    (fronted-as (header_settings part) (front_value mode now) (signed part.security is.there).0 nonce) chunk long

datagram-is : (config : Config) (part : GroupPart) (made : ℕ) (sender : Option SenderState) (index : ℕ) (payload : Payload) → IsSealedBy part sender
    → length (datagram_at (envelope_with config part made) sender index payload) ≡ header_len (header_at (envelope_with config part made) sender index payload.0) + length payload.1 + signature_len part.security
datagram-is config part made None index payload is =
    let h = open_header (envelope_with config part made) index payload.0 in
    omega (arith, length-append (header_bytes h) payload.1, length-header h is.class_id, (unsigned part.security is.there).1)
datagram-is config part made (Some s) index payload is =
    let mode = mode_of part.security in
    let now = advanced_by mode s (suc index) in
    let h = secured_header (envelope_with config part made) now index payload.0 in
    omega (arith, length-sent mode now (header_bytes h) payload.1, length-header h is.class_id, (signed part.security is.there).1)

pub datagram-long : (config : Config) (part : GroupPart) (made : ℕ) (sender : Option SenderState) (index : ℕ) (payload : Payload) (other : IdsValue) → IsSealedBy part sender → is_chunk payload.0 ≡ is_chunk other
    → ids_len payload.0 ≡ ids_len other → length (datagram_at (envelope_with config part made) sender index payload)
    ≡ header_len (header_of config.publisher.id (header_settings part) other) + length payload.1 + signature_len part.security
datagram-long config part made sender index payload other is chunk long =
    datagram-is config part made sender index payload is
    ∙ ap (λ (n : ℕ). n + length payload.1 + signature_len part.security) (header-as config part made sender index payload.0 other is chunk long)

-- ---- each keeps to the largest

pub record KeepsTo (config : Config) (part : GroupPart) (made : ℕ) (sender : Option SenderState) (payload : Payload) : Type 0 where
  pub keeps : (index : ℕ) → length (datagram_at (envelope_with config part made) sender index payload) ≤ part.max_size

pub all-keep : (config : Config) (part : GroupPart) (made : ℕ) (sender : Option SenderState) (index : ℕ) (payloads : List Payload) → All (KeepsTo config part made sender) payloads
    → All (λ (datagram : List ℕ). length datagram ≤ part.max_size) (datagrams_from (envelope_with config part made) sender index payloads)
all-keep config part made sender index [] each = All-nil (λ (datagram : List ℕ). length datagram ≤ part.max_size)
all-keep config part made sender index (payload ∷ payloads) each =
    let first : KeepsTo config part made sender payload = All-head (KeepsTo config part made sender) payload payloads each in
    All-cons (λ (datagram : List ℕ). length datagram ≤ part.max_size) (datagram_at (envelope_with config part made) sender index payload)
    (datagrams_from (envelope_with config part made) sender (index + 1) payloads) (first.keeps index)
    (all-keep config part made sender (index + 1) payloads (All-tail (KeepsTo config part made sender) payload payloads each))

-- ---- frames that share a datagram

list-len : (publisher : Publisher) (part : GroupPart) (ids : List ℕ) → header_len (header_of publisher (header_settings part) (ListOf ids)) ≡ fixed_header publisher part + 1 + length ids
unfolding header_len
list-len publisher part ids = omega arith

bytes-some : (frames : List Spelled) → 0 < length frames → All HasByte frames → 1 ≤ sum_by (λ (b : List ℕ). length b) (map (λ (f : Spelled). f.bytes) frames)
bytes-some [] some each = absurd (omega arith)
bytes-some (frame ∷ frames) some each =
    let first : 1 ≤ size_of frame = All-head HasByte frame frames each in
    omega (arith, first, sum_by-cons (λ (b : List ℕ). length b) frame.bytes (map (λ (f : Spelled). f.bytes) frames))

sums-same : (frames : List Spelled) → sum_by size_of frames ≡ sum_by (λ (b : List ℕ). length b) (map (λ (f : Spelled). f.bytes) frames)
sums-same [] = refl
sums-same (frame ∷ frames) =
    sum_by-cons size_of frame frames ∙ ap (λ (n : ℕ). size_of frame + n) (sums-same frames) ∙ sym (sum_by-cons (λ (b : List ℕ). length b) frame.bytes (map (λ (f : Spelled). f.bytes) frames))

counted-same : (frames : List Spelled) → payload_size size_of frames ≡ length (frames_payload frames).1
counted-same frames =
    let bytes = map (λ (f : Spelled). f.bytes) frames in
    let sizes : ℕ → ℕ = λ (n : ℕ). if nat_lt 1 n then 2 * n else 0 in
    ap (λ (n : ℕ). sizes (length frames) + n) (sums-same frames)
    ∙ ap (λ (n : ℕ). sizes n + sum_by (λ (b : List ℕ). length b) bytes) (sym (length-map frames (λ (f : Spelled). f.bytes)))
    ∙ payload-counted bytes

frames-keep : (config : Config) (part : GroupPart) (made : ℕ) (sender : Option SenderState) (frames : List Spelled) → IsSealedBy part sender → fits size_of (frame_room config.publisher.id part) frames ≡ true
    → 0 < length frames → All HasByte frames → KeepsTo config part made sender (frames_payload frames)
frames-keep config part made sender frames is fit some each =
    let ids : List ℕ = flat_map (to_le_bytes w16) (map (λ (f : Spelled). f.id) frames) in
    let within : payload_size size_of frames + 2 * (length frames - 1) ≤ frame_room config.publisher.id part =
    leb-true _ _ (and_parts (nat_le (payload_size size_of frames + 2 * (length frames - 1)) (frame_room config.publisher.id part)) (nat_le (length frames) 255) fit).0 in
    let size : length ids ≡ 2 * length frames = length-sizes (map (λ (f : Spelled). f.id) frames) ∙ ap (λ (n : ℕ). 2 * n) (length-map frames (λ (f : Spelled). f.id)) in
    let byte : 1 ≤ payload_size size_of frames = omega (arith, sums-same frames, bytes-some frames some each) in
    record {
      keeps = λ index.
          omega (
            arith,
            datagram-long config part made sender index (frames_payload frames) (ListOf ids) is refl refl,
            list-len config.publisher.id part ids,
            size,
            within,
            byte,
            counted-same frames,
            one-writer config.publisher.id part,
          );
    }

-- ---- chunks

chunk-keeps : (config : Config) (part : GroupPart) (made : ℕ) (sender : Option SenderState) (frame : Spelled) (place : ℕ) → IsSealedBy part sender → 1 ≤ chunk_room config.publisher.id part
    → KeepsTo config part made sender (chunk_payload frame (cut_at (chunk_room config.publisher.id part) frame.number frame.bytes place))
chunk-keeps config part made sender frame place is some =
    let room : ℕ = chunk_room config.publisher.id part in
    let chunk = cut_at room frame.number frame.bytes place in
    record {
      keeps = λ index.
          omega (
            arith,
            datagram-long config part made sender index (chunk_payload frame chunk) (ChunkOf 0) is refl refl,
            chunk-long chunk,
            length-take room (drop (place * room) frame.bytes),
            some,
          );
    }

chunks-keep : (config : Config) (part : GroupPart) (made : ℕ) (sender : Option SenderState) (frame : Spelled) → IsSealedBy part sender → 1 ≤ chunk_room config.publisher.id part
    → All (KeepsTo config part made sender) (chunk_payloads (chunk_room config.publisher.id part) frame)
chunks-keep config part made sender frame is some =
    let room = chunk_room config.publisher.id part in
    let places = range_with_len 0 ((length frame.bytes + room - 1) / room) in
    All-map (KeepsTo config part made sender) (chunk_payload frame) (map (cut_at room frame.number frame.bytes) places)
    (All-map (λ (chunk : Chunk). KeepsTo config part made sender (chunk_payload frame chunk)) (cut_at room frame.number frame.bytes) places
    (λ k d within. chunk-keeps config part made sender frame (get_or places k d) is some))

cut-keep : (config : Config) (part : GroupPart) (made : ℕ) (sender : Option SenderState) (frames : List Spelled) → IsSealedBy part sender → 1 ≤ chunk_room config.publisher.id part
    → All (KeepsTo config part made sender) (flat_map (chunk_payloads (chunk_room config.publisher.id part)) frames)
cut-keep config part made sender [] is some = All-nil (KeepsTo config part made sender)
cut-keep config part made sender (frame ∷ frames) is some =
    All-append (KeepsTo config part made sender) (chunk_payloads (chunk_room config.publisher.id part) frame) (flat_map (chunk_payloads (chunk_room config.publisher.id part)) frames)
    (chunks-keep config part made sender frame is some) (cut-keep config part made sender frames is some)

-- ---- packs

pack-keeps : (config : Config) (part : GroupPart) (made : ℕ) (sender : Option SenderState) (frames : List Spelled) (cut : Bool) → IsSealedBy part sender → 1 ≤ chunk_room config.publisher.id part
    → IsSound size_of (frame_room config.publisher.id part) (record { frames = frames; cut = cut }) → All HasByte frames
    → All (KeepsTo config part made sender) (if cut then flat_map (chunk_payloads (chunk_room config.publisher.id part)) frames else frames_payload frames ∷ [])
pack-keeps config part made sender frames true is some sound each = cut-keep config part made sender frames is some
pack-keeps config part made sender frames false is some sound each =
    All-cons (KeepsTo config part made sender) (frames_payload frames) [] (frames-keep config part made sender frames is (sound.uncut refl) sound.some each) (All-nil (KeepsTo config part made sender))

pub packs-keep : (config : Config) (part : GroupPart) (made : ℕ) (sender : Option SenderState) (packs : List (Packed Spelled)) → IsSealedBy part sender → 1 ≤ chunk_room config.publisher.id part
    → All (IsSound size_of (frame_room config.publisher.id part)) packs → All HasByte (flat_map (λ (pack : Packed Spelled). pack.frames) packs)
    → All (KeepsTo config part made sender) (flat_map (pack_payloads (chunk_room config.publisher.id part)) packs)
packs-keep config part made sender [] is some sound each = All-nil (KeepsTo config part made sender)
packs-keep config part made sender (pack ∷ packs) is some sound each =
    let rest = flat_map (λ (p : Packed Spelled). p.frames) packs in
    let mine : All HasByte pack.frames = (each-left pack.frames rest each).0 in
    let others : All HasByte rest = (each-left pack.frames rest each).1 in
    All-append (KeepsTo config part made sender) (pack_payloads (chunk_room config.publisher.id part) pack) (flat_map (pack_payloads (chunk_room config.publisher.id part)) packs)
    (pack-keeps config part made sender pack.frames pack.cut is some (All-head (IsSound size_of (frame_room config.publisher.id part)) pack packs sound) mine)
    (packs-keep config part made sender packs is some (All-tail (IsSound size_of (frame_room config.publisher.id part)) pack packs sound) others)
