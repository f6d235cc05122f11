-- What the datagrams of a dynamic group have for a reader: the frames of its writer, whole or in chunks.
use Rattle.std.proofs.Common.{◌≡◌, refl, sym, ap, ◌∙◌, subst, arith, ℕ, ◌+◌, ◌*◌, ◌-◌, ◌<◌, ◌≤◌, ◌^◌, Bool, true, false, ◌&&◌, List, [], ◌∷◌, ◌++◌, length, map, append-nil, All, sum_by}
use Rattle.std.specs.Prelude.{◌==◌, nat_le, nat_lt, filter, if◌then◌else◌}
use Rattle.std.specs.Int.{w16, to_le_bytes}
use Rattle.std.specs.List.{flat_map}
use Rattle.std.proofs.lemmas.Bool.{le-leb, leb-true}
use Rattle.std.proofs.lemmas.Bool.Decides.{nat_tests}
use Rattle.std.proofs.lemmas.List.Elements.{All-head, All-tail, All-weaker, All-map}
use Rattle.std.proofs.lemmas.List.Folds.{flat_map-map}
use Rattle.uadp_header.specs.Headers.{ids_of}
use Rattle.uadp_header.proofs.IdLaws.{ids-again}
use Rattle.payload_layout.specs.Packing.{Packed, IsSound, packs_of, payload_size, fits}
use Rattle.payload_layout.specs.Payloads.{AreShort, parts_of, ids_in, frames_in, dynamic_payload}
use Rattle.payload_layout.proofs.Again.{parts-again}
use Rattle.payload_layout.proofs.Packs.{packs-frames}
use Rattle.chunker.specs.Chunks.{Chunk, cuts}
use Rattle.chunker.specs.Spelling.{chunk_bytes}
use Rattle.ps_config.specs.declared.parts.ReaderPart.{ReaderPart}
use Rattle.writer_group.specs.Payloads.{Spelled, size_of, frames_payload, chunk_payload, chunk_payloads, pack_payloads}
use Rattle.writer_group.specs.Sealing.{Payload}
use Rattle.reader_group.specs.Payloads as readers
use Rattle.reader_group.specs.Payloads.{Piece, Message, Chunked, pieces}
use Rattle.group_laws.specs.TurnPieces.{frame_pieces}
use Rattle.writer_group.proofs.SmallIds.{IsSmall, IsSmallPack, packs-readable}
use Rattle.group_laws.proofs.Lists.{flat_map-flat_map, flat_map-agree, All-below_sum}

-- what a frame has for the reader of this id
abbrev pub own : ℕ → ℕ → ℕ → Spelled → List Piece
own id frame_room room frame = if frame.id == id then frame_pieces frame_room room frame else []

-- what a payload has for a reader
abbrev pub brought : ReaderPart → Payload → List Piece
brought reader payload = pieces reader (readers.dynamic_payload payload.0 payload.1)

abbrev part_of : Spelled → ℕ × List ℕ
part_of frame = (frame.id, frame.bytes)

-- ---- frames that stand whole

frame_fits : (frame_room room : ℕ) (frame : Spelled) → size_of frame ≤ frame_room → frame_pieces frame_room room frame ≡ Message frame.bytes ∷ []
frame_fits frame_room room frame fit =
    ap (λ (b : Bool). if b then Message frame.bytes ∷ [] else map (λ chunk. Chunked (chunk_bytes chunk)) (cuts room frame.number frame.bytes)) (le-leb (size_of frame) frame_room fit)

abbrev messages_for : ℕ → List (ℕ × List ℕ) → List Piece
messages_for id parts = map (λ (part : ℕ × List ℕ). Message part.1) (filter (λ (part : ℕ × List ℕ). part.0 == id) parts)

one_more : (b : Bool) (id frame_room room : ℕ) (frame : Spelled) (parts : List (ℕ × List ℕ)) (rest : List Piece) → size_of frame ≤ frame_room → (frame.id == id) ≡ b → messages_for id parts ≡ rest
    → messages_for id (part_of frame ∷ parts) ≡ own id frame_room room frame ++ rest
one_more true id frame_room room frame parts rest fit is later = rw (is, frame_fits frame_room room frame fit) (ap (λ (l : List Piece). Message frame.bytes ∷ l) later)
one_more false id frame_room room frame parts rest fit is later = rw is later

whole-frames : (id frame_room room : ℕ) (frames : List Spelled) → All (λ frame. size_of frame ≤ frame_room) frames → messages_for id (map part_of frames) ≡ flat_map (own id frame_room room) frames
whole-frames id frame_room room [] fit = refl
whole-frames id frame_room room (frame ∷ frames) fit =
    one_more (frame.id == id) id frame_room room frame (map part_of frames) (flat_map (own id frame_room room) frames) (All-head (λ (f : Spelled). size_of f ≤ frame_room) frame frames fit) refl
    (whole-frames id frame_room room frames (All-tail (λ (f : Spelled). size_of f ≤ frame_room) frame frames fit))

ids-are : (frames : List Spelled) → ids_in (map part_of frames) ≡ map (λ frame. frame.id) frames
ids-are [] = refl
ids-are (frame ∷ frames) = ap (λ (l : List ℕ). frame.id ∷ l) (ids-are frames)

bytes-are : (frames : List Spelled) → frames_in (map part_of frames) ≡ map (λ frame. frame.bytes) frames
bytes-are [] = refl
bytes-are (frame ∷ frames) = ap (λ (l : List (List ℕ)). frame.bytes ∷ l) (bytes-are frames)

-- frames in a payload come apart again
pub parts-back : (frames : List Spelled) → All (λ frame. frame.id < 2 ^ 16) frames → All (λ frame. size_of frame < 65536) frames
    → parts_of (ids_of (flat_map (to_le_bytes w16) (map (λ frame. frame.id) frames))) (dynamic_payload (map (λ frame. frame.bytes) frames)) ≡ map part_of frames
parts-back frames ids sizes =
    let short : AreShort (map (λ (frame : Spelled). frame.bytes) frames) = All-map (λ (bytes : List ℕ). length bytes < 65536) (λ (frame : Spelled). frame.bytes) frames sizes in
    let all_short : AreShort (frames_in (map part_of frames)) = subst AreShort (sym (bytes-are frames)) short in
    ap (λ (l : List ℕ). parts_of l (dynamic_payload (map (λ (frame : Spelled). frame.bytes) frames))) (ids-again (map (λ (frame : Spelled). frame.id) frames) (All-map (λ (id : ℕ). id < 2 ^ 16) (λ (frame : Spelled). frame.id) frames ids))
    ∙ ap (λ (l : List ℕ). parts_of l (dynamic_payload (map (λ (frame : Spelled). frame.bytes) frames))) (sym (ids-are frames))
    ∙ ap (λ (l : List (List ℕ)). parts_of (ids_in (map part_of frames)) (dynamic_payload l)) (sym (bytes-are frames))
    ∙ parts-again (map part_of frames) all_short

brought-whole : (reader : ReaderPart) (frame_room room : ℕ) (frames : List Spelled) → All (λ frame. frame.id < 2 ^ 16) frames → All (λ frame. size_of frame < 65536) frames
    → All (λ frame. size_of frame ≤ frame_room) frames → brought reader (frames_payload frames) ≡ flat_map (own reader.writer frame_room room) frames
brought-whole reader frame_room room frames ids sizes fit =
    ap (messages_for reader.writer) (parts-back frames ids sizes) ∙ whole-frames reader.writer frame_room room frames fit

-- ---- a frame that is cut

chunks_if : (b : Bool) (chunks : List Chunk) → flat_map (λ (chunk : Chunk). if b then Chunked (chunk_bytes chunk) ∷ [] else []) chunks ≡ (if b then map (λ chunk. Chunked (chunk_bytes chunk)) chunks else [])
chunks_if true [] = refl
chunks_if false [] = refl
chunks_if true (chunk ∷ chunks) = ap (λ (l : List Piece). Chunked (chunk_bytes chunk) ∷ l) (chunks_if true chunks)
chunks_if false (chunk ∷ chunks) = chunks_if false chunks

frame_cut : (frame_room room : ℕ) (frame : Spelled) → frame_room < size_of frame → frame_pieces frame_room room frame ≡ map (λ chunk. Chunked (chunk_bytes chunk)) (cuts room frame.number frame.bytes)
frame_cut frame_room room frame large =
    let no : nat_le (size_of frame) frame_room ≡ false = grind (arith, nat_tests) in
    ap (λ (b : Bool). if b then Message frame.bytes ∷ [] else map (λ chunk. Chunked (chunk_bytes chunk)) (cuts room frame.number frame.bytes)) no

brought-cut : (reader : ReaderPart) (frame_room room : ℕ) (frame : Spelled) → frame_room < size_of frame → flat_map (brought reader) (chunk_payloads room frame) ≡ own reader.writer frame_room room frame
brought-cut reader frame_room room frame large =
    flat_map-map (brought reader) (chunk_payload frame) (cuts room frame.number frame.bytes)
    ∙ chunks_if (frame.id == reader.writer) (cuts room frame.number frame.bytes)
    ∙ ap (λ (l : List Piece). if frame.id == reader.writer then l else []) (sym (frame_cut frame_room room frame large))

-- ---- a pack

pub fitting : (room : ℕ) (frames : List Spelled) → fits size_of room frames ≡ true → All (λ frame. size_of frame ≤ room) frames
fitting room frames e =
    let within : payload_size size_of frames + 2 * (length frames - 1) ≤ room = leb-true (payload_size size_of frames + 2 * (length frames - 1)) room (left _ _ e) in
    All-weaker (λ (f : Spelled). size_of f ≤ sum_by size_of frames) (λ (f : Spelled). size_of f ≤ room) (λ f le. at_most (nat_lt 1 (length frames)) (size_of f) (sum_by size_of frames) le within) frames (All-below_sum size_of frames)
  where
    left : (a b : Bool) → (a && b) ≡ true → a ≡ true
    left true b e = refl
    left false b e = absurd (let wrong : Path Bool false true = e in cc)

    at_most : (b : Bool) (n total : ℕ) → n ≤ total → (if b then 2 * length frames else 0) + total + 2 * (length frames - 1) ≤ room → n ≤ room
    at_most true n total le within = omega (arith, le, within)
    at_most false n total le within = omega (arith, le, within)

brought-pack : (reader : ReaderPart) (frame_room room : ℕ) (pack : Packed Spelled) (cut : Bool) → pack.cut ≡ cut → frame_room < 65536 → All IsSmall pack.frames → IsSound size_of frame_room pack
    → flat_map (brought reader) (pack_payloads room pack) ≡ flat_map (own reader.writer frame_room room) pack.frames
brought-pack reader frame_room room pack false is short ids sound =
    let fit = fitting frame_room pack.frames (sound.uncut is) in
    ap (λ (b : Bool). flat_map (brought reader) (if b then flat_map (chunk_payloads room) pack.frames else frames_payload pack.frames ∷ [])) is
    ∙ append-nil (brought reader (frames_payload pack.frames))
    ∙ brought-whole reader frame_room room pack.frames (All-weaker IsSmall (λ (f : Spelled). f.id < 2 ^ 16) (λ f small. small.id) pack.frames ids)
    (All-weaker (λ (f : Spelled). size_of f ≤ frame_room) (λ (f : Spelled). size_of f < 65536) (λ f le. omega (arith, le, short)) pack.frames fit) fit
brought-pack reader frame_room room pack true is short ids sound =
    let alone = sound.alone is in
    let frame = alone.0 in
    ap (λ (b : Bool). flat_map (brought reader) (if b then flat_map (chunk_payloads room) pack.frames else frames_payload pack.frames ∷ [])) is
    ∙ flat_map-flat_map (brought reader) (chunk_payloads room) pack.frames
    ∙ ap (λ (frames : List Spelled). flat_map (λ (f : Spelled). flat_map (brought reader) (chunk_payloads room f)) frames) alone.1
    ∙ ap (λ (l : List Piece). l ++ []) (brought-cut reader frame_room room frame alone.2)
    ∙ ap (λ (frames : List Spelled). flat_map (own reader.writer frame_room room) frames) (sym alone.1)

-- ---- all packs

pub brought-all : (reader : ReaderPart) (frame_room room : ℕ) (frames : List Spelled) → frame_room < 65536 → All IsSmall frames
    → flat_map (brought reader) (flat_map (pack_payloads room) (packs_of size_of frame_room frames)) ≡ flat_map (own reader.writer frame_room room) frames
brought-all reader frame_room room frames short small =
    let packs = packs_of size_of frame_room frames in
    flat_map-flat_map (brought reader) (pack_payloads room) packs
    ∙ flat_map-agree (IsSmallPack frame_room) (λ (pack : Packed Spelled). flat_map (brought reader) (pack_payloads room pack)) (λ (pack : Packed Spelled). flat_map (own reader.writer frame_room room) pack.frames)
    (λ pack readable. brought-pack reader frame_room room pack pack.cut refl short readable.small readable.sound) packs (packs-readable frame_room frames small)
    ∙ sym (flat_map-flat_map (own reader.writer frame_room room) (λ (pack : Packed Spelled). pack.frames) packs)
    ∙ ap (flat_map (own reader.writer frame_room room)) (packs-frames size_of frame_room frames)
