-- How many bytes the datagrams of a turn take at most.
use Rattle.std.proofs.Common.{◌≡◌, ℕ, zero, suc, ◌+◌, ◌-◌, ◌*◌, ◌/◌, ◌≤◌, Bool, true, false, List, [], ◌∷◌, ◌++◌, length, map, drop, is_some, nat_lt, ap, ◌∙◌, arith, Option, Some, None, All}
use Rattle.std.specs.Prelude.{IfSome, if◌then◌else◌}
use Rattle.std.specs.Int.{w16, w32, to_le_bytes}
use Rattle.std.specs.List.{flat_map, range_with_len}
use Rattle.std.proofs.lemmas.List.{length-append, length-drop, length-map, length-take}
use Rattle.std.proofs.lemmas.List.Elements.{All-head, All-tail}
use Rattle.std.proofs.lemmas.List.FromFn.{length-range_with_len}
use Rattle.ua_binary.specs.Wire.{flag}
use Rattle.uadp_header.specs.Headers.{HeaderValue}
use Rattle.uadp_header.specs.Spelling.{extended1_in, header_bytes, header_len, ids_len, is_chunk, len_if, publisher_len, security_len}
use Rattle.uadp_header.proofs.Lengths.{length-header}
use Rattle.payload_layout.specs.Packing.{Packed, packs_of}
use Rattle.payload_layout.specs.Payloads.{sizes_bytes}
use Rattle.payload_layout.proofs.Laid.{length-sizes}
use Rattle.payload_layout.proofs.Packs.{packs-frames}
use Rattle.chunker.specs.Chunks.{cut_at}
use Rattle.hmac_sign.specs.Hmac.{hmac_sha256}
use Rattle.hmac_sign.proofs.Lengths.{signature_length}
use Rattle.message_guard.specs.declared.mode.Mode.{Mode}
use Rattle.message_guard.specs.Protection.{message_nonce, with_stream}
use Rattle.message_guard.specs.Senders.{SenderState, IsSender, sent}
use Rattle.message_guard.proofs.Restoring.{length-nonce, length-with_stream}
use Rattle.ps_config.proofs.HeaderSizes.{flag_most}
use Rattle.ps_config.specs.Headers.{mode_of}
use Rattle.writer_group.specs.Payloads.{Spelled, chunk_payload, chunk_payloads, frames_payload, pack_payloads, size_of}
use Rattle.writer_group.specs.Posting.{joined}
use Rattle.writer_group.specs.Sealing.{Envelope, Payload, advanced_by, datagram_at, datagrams_from, open_header, secured_header}
use Rattle.writer_group.proofs.Joining.{advanced-random}

-- ---- one datagram

-- a publisher's id is short, and a class id has its bytes
pub record IsBrief (e : Envelope) : Type 0 where
  pub publisher : publisher_len e.publisher ≤ 68
  pub class_id : len_if length e.settings.class_id ≡ flag (is_some e.settings.class_id) 16

header-most : (h : HeaderValue) → len_if publisher_len h.publisher ≤ 68 → len_if security_len h.security ≤ 14 → header_len h ≤ 112 + ids_len h.ids
unfolding header_len
header-most h publisher security =
    omega (
      arith,
      publisher,
      security,
      flag_most (nat_lt 0 (extended1_in h)) 1,
      flag_most (is_chunk h.ids) 1,
      flag_most (is_some h.class_id) 16,
      flag_most (is_some h.group) 2,
      flag_most (is_some h.version) 4,
      flag_most (is_some h.message_number) 2,
      flag_most (is_some h.sequence) 2,
    )

pub length-sent : (mode : Mode) (s : SenderState) (header payload : List ℕ) → length (sent mode s header payload) ≡ length header + length payload + 32
length-sent mode s header payload =
    let body = with_stream mode s.keys (message_nonce s.random s.used) s.first_block payload in
    omega (
      arith,
      length-append (header ++ body) (hmac_sha256 s.keys.signing (header ++ body)),
      length-append header body,
      length-with_stream mode s.keys (message_nonce s.random s.used) s.first_block payload,
      signature_length s.keys.signing (header ++ body),
    )

weight : Payload → ℕ
weight payload = ids_len payload.0 + length payload.1

datagram-most : (e : Envelope) (sender : Option SenderState) (index : ℕ) (payload : Payload) → IsBrief e → IfSome sender IsSender
    → length (datagram_at e sender index payload) ≤ 144 + weight payload
unfolding weight
datagram-most e None index payload brief is =
    let h = open_header e index payload.0 in
    omega (arith, length-append (header_bytes h) payload.1, length-header h brief.class_id, header-most h brief.publisher (omega arith))
datagram-most e (Some s) index payload brief is =
    let mode = mode_of e.settings.security in
    let now = advanced_by mode s (suc index) in
    let h = secured_header e now index payload.0 in
    let nonce : length (message_nonce now.random now.used) ≡ 8 = length-nonce now.random now.used (ap length (advanced-random mode s (suc index)) ∙ is.random) in
    omega (arith, length-sent mode now (header_bytes h) payload.1, length-header h brief.class_id, header-most h brief.publisher (omega (arith, nonce)))

weights : List Payload → ℕ
weights [] = 0
weights (payload ∷ payloads) = weight payload + weights payloads

made-most : (e : Envelope) (sender : Option SenderState) (index : ℕ) (payloads : List Payload) → IsBrief e → IfSome sender IsSender
    → length (joined (datagrams_from e sender index payloads)) ≤ 144 * length payloads + weights payloads
unfolding weights
made-most e sender index [] brief is = omega arith
made-most e sender index (payload ∷ payloads) brief is =
    omega (
      arith,
      length-append (datagram_at e sender index payload) (joined (datagrams_from e sender (index + 1) payloads)),
      datagram-most e sender index payload brief is,
      made-most e sender (index + 1) payloads brief is,
    )

-- ---- the payloads of packs

weights-append : (xs ys : List Payload) → weights (xs ++ ys) ≡ weights xs + weights ys
unfolding weights
weights-append [] ys = omega arith
weights-append (x ∷ xs) ys = omega (arith, weights-append xs ys)

-- frames with four bytes more for each
span : List Spelled → ℕ
span [] = 0
span (frame ∷ frames) = size_of frame + 4 + span frames

span-append : (xs ys : List Spelled) → span (xs ++ ys) ≡ span xs + span ys
unfolding span
span-append [] ys = omega arith
span-append (x ∷ xs) ys = omega (arith, span-append xs ys)

-- the bytes of chunks are no more than the message's
chunk-weights : (frame : Spelled) (room from count : ℕ)
    → weights (map (chunk_payload frame) (map (cut_at room frame.number frame.bytes) (range_with_len from count))) ≤ 16 * count + (length frame.bytes - from * room)
unfolding weight weights
chunk-weights frame room from zero = omega arith
chunk-weights frame room from (suc count) =
    let chunk = cut_at room frame.number frame.bytes from in
    omega (
      arith,
      length-append (to_le_bytes w16 chunk.place ++ to_le_bytes w32 chunk.offset ++ to_le_bytes w32 chunk.total ++ to_le_bytes w32 (length chunk.bytes)) chunk.bytes,
      length-take room (drop (from * room) frame.bytes),
      length-drop (from * room) frame.bytes,
      chunk-weights frame room (from + 1) count,
    )

pub length-chunks : (room : ℕ) (frame : Spelled) → length (chunk_payloads room frame) ≡ (length frame.bytes + room - 1) / room
length-chunks room frame =
    let places = range_with_len 0 ((length frame.bytes + room - 1) / room) in
    length-map (map (cut_at room frame.number frame.bytes) places) (chunk_payload frame) ∙ length-map places (cut_at room frame.number frame.bytes)
    ∙ length-range_with_len 0 ((length frame.bytes + room - 1) / room)

frame-weights : (room : ℕ) (frame : Spelled) → weights (chunk_payloads room frame) ≤ 16 * length (chunk_payloads room frame) + size_of frame
frame-weights room frame = omega (arith, length-chunks room frame, chunk-weights frame room 0 ((length frame.bytes + room - 1) / room))

cut-weights : (room : ℕ) (frames : List Spelled) → weights (flat_map (chunk_payloads room) frames) ≤ 16 * length (flat_map (chunk_payloads room) frames) + span frames
unfolding weights span
cut-weights room [] = omega arith
cut-weights room (frame ∷ frames) =
    omega (
      arith,
      weights-append (chunk_payloads room frame) (flat_map (chunk_payloads room) frames),
      length-append (chunk_payloads room frame) (flat_map (chunk_payloads room) frames),
      frame-weights room frame,
      cut-weights room frames,
    )

bytes-of : (frames : List Spelled) → length (flat_map (λ (bytes : List ℕ). bytes) (map (λ (f : Spelled). f.bytes) frames)) + 4 * length frames ≡ span frames
unfolding span
bytes-of [] = omega arith
bytes-of (frame ∷ frames) =
    omega (arith, length-append frame.bytes (flat_map (λ (bytes : List ℕ). bytes) (map (λ (f : Spelled). f.bytes) frames)), bytes-of frames)

sizes-most : (sizes : List ℕ) → length (sizes_bytes sizes) ≤ 2 * length sizes
sizes-most sizes = by_count (nat_lt 1 (length sizes))
  where
    by_count : (b : Bool) → length (if b then flat_map (to_le_bytes w16) sizes else []) ≤ 2 * length sizes
    by_count true = omega (arith, length-sizes sizes)
    by_count false = omega arith

packed-weights : (frames : List Spelled) → weight (frames_payload frames) ≤ 16 + span frames
unfolding weight
packed-weights frames =
    let ids = map (λ (f : Spelled). f.id) frames in
    let bytes = map (λ (f : Spelled). f.bytes) frames in
    omega (
      arith,
      length-sizes ids,
      length-map frames (λ (f : Spelled). f.id),
      length-append (sizes_bytes (map length bytes)) (flat_map (λ (b : List ℕ). b) bytes),
      sizes-most (map length bytes),
      length-map bytes (λ (b : List ℕ). length b),
      length-map frames (λ (f : Spelled). f.bytes),
      bytes-of frames,
    )

pack-weights : (room : ℕ) (frames : List Spelled) (cut : Bool)
    → weights (if cut then flat_map (chunk_payloads room) frames else frames_payload frames ∷ []) ≤ 16 * length (if cut then flat_map (chunk_payloads room) frames else frames_payload frames ∷ []) + span frames
unfolding weights
pack-weights room frames true = cut-weights room frames
pack-weights room frames false = omega (arith, packed-weights frames)

packs-weights : (room : ℕ) (packs : List (Packed Spelled)) → weights (flat_map (pack_payloads room) packs) ≤ 16 * length (flat_map (pack_payloads room) packs) + span (flat_map (λ (pack : Packed Spelled). pack.frames) packs)
unfolding weights span
packs-weights room [] = omega arith
packs-weights room (pack ∷ packs) =
    omega (
      arith,
      weights-append (pack_payloads room pack) (flat_map (pack_payloads room) packs),
      length-append (pack_payloads room pack) (flat_map (pack_payloads room) packs),
      span-append pack.frames (flat_map (λ (p : Packed Spelled). p.frames) packs),
      pack-weights room pack.frames pack.cut,
      packs-weights room packs,
    )

span-most : (frames : List Spelled) → All (λ (f : Spelled). size_of f ≤ 2048) frames → span frames ≤ 2052 * length frames
unfolding span
span-most [] each = omega arith
span-most (frame ∷ frames) each =
    let first : size_of frame ≤ 2048 = All-head (λ (f : Spelled). size_of f ≤ 2048) frame frames each in
    omega (arith, first, span-most frames (All-tail (λ (f : Spelled). size_of f ≤ 2048) frame frames each))

-- ---- turns

pub dynamic-bytes : (e : Envelope) (sender : Option SenderState) (frame_room room : ℕ) (frames : List Spelled) → IsBrief e → IfSome sender IsSender
    → length frames ≤ 16 → All (λ (f : Spelled). size_of f ≤ 2048) frames
    → length (flat_map (pack_payloads room) (packs_of size_of frame_room frames)) ≤ 1024
    → length (joined (datagrams_from e sender 0 (flat_map (pack_payloads room) (packs_of size_of frame_room frames)))) ≤ 229376
dynamic-bytes e sender frame_room room frames brief is few short count =
    let packs = packs_of size_of frame_room frames in
    omega (
      arith,
      made-most e sender 0 (flat_map (pack_payloads room) packs) brief is,
      packs-weights room packs,
      ap span (packs-frames size_of frame_room frames),
      span-most frames short,
      few,
      count,
    )

pub fixed-bytes : (e : Envelope) (sender : Option SenderState) (payload : Payload) → IsBrief e → IfSome sender IsSender → ids_len payload.0 + length payload.1 ≤ 66000
    → length (joined (datagrams_from e sender 0 (payload ∷ []))) ≤ 229376
unfolding weight weights
fixed-bytes e sender payload brief is small = omega (arith, made-most e sender 0 (payload ∷ []) brief is, small)
