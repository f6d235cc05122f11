-- A turn in which a writer has a frame makes a datagram.
use Rattle.std.proofs.Common.{◌≡◌, ℕ, ◌+◌, ◌<◌, ◌≤◌, Bool, true, false, List, [], ◌∷◌, length, map, nat_lt, refl, sym, ap, subst, arith, Option, Some, None, All}
use Rattle.std.specs.Prelude.{option_map, if◌then◌else◌}
use Rattle.std.specs.List.{flat_map}
use Rattle.std.proofs.lemmas.Bool.{ltb-false}
use Rattle.std.proofs.lemmas.List.{length-append}
use Rattle.std.proofs.lemmas.List.Elements.{All-append, All-cons, All-head, All-nil}
use Rattle.dataset_meta.specs.Metas.{MetaData}
use Rattle.frame_codec.specs.Frames.{Frame}
use Rattle.uadp_header.specs.Headers.{NoIds}
use Rattle.fixed_layout.specs.Datagrams.{fixed_payload}
use Rattle.frame_codec.proofs.Lengths.{frame_some}
use Rattle.pubsub_model.specs.Frames.{PlacedFrame}
use Rattle.pubsub_model.specs.Cadence.{WriterTurn}
use Rattle.payload_layout.specs.Packing.{IsSound, Packed, packs_of}
use Rattle.payload_layout.proofs.Packs.{packs-frames, packs-sound}
use Rattle.config_tables.specs.declared.words.Layout.{Layout}
use Rattle.config_tables.specs.declared.words.Layout.TheVariants as layout
use Rattle.ps_config.specs.declared.parts.Config.{Config}
use Rattle.ps_config.specs.declared.parts.GroupPart.{GroupPart}
use Rattle.ps_config.specs.Rooms.{chunk_room, is_fixed, lacks_room}
use Rattle.ps_config.proofs.Roomy.{chunk_roomy}
use Rattle.writer_group.specs.Envelopes.{frame_room}
use Rattle.writer_group.specs.Payloads.{Spelled, chunk_payloads, fixed_header, frames_payload, laid_frame, pack_payloads, payloads_by, payloads_of, size_of, slots_of, spelled_by}
use Rattle.writer_group.specs.Sealing.{Payload}
use Rattle.writer_group.specs.Turns.{GroupDeed, TurnInput, answer_of, envelope_of, frame_of_writer, frames_from, frames_in, list_of, turn_datagrams, turns_from}
use Rattle.writer_group.proofs.Cutting.{chunk-some}
use Rattle.writer_group.proofs.DatagramSizes.{length-chunks}
use Rattle.writer_group.proofs.Joining.{made-count}
use Rattle.writer_group.proofs.RawFrames.{raw-some}
use Rattle.writer_group.proofs.Totals.{HasByte, each-left}

-- ---- each frame has a byte

frame-byte : (layout : Layout) (meta : MetaData) (frame : Frame) → 1 ≤ length (laid_frame layout meta frame)
frame-byte layout.Dynamic meta frame = frame_some meta.quality frame
frame-byte layout.Fixed meta frame = raw-some meta.fields frame

answer-bytes : (group : GroupPart) (metas : List MetaData) (writer : ℕ) (answer : Option PlacedFrame) → All HasByte (list_of (option_map (spelled_by group metas writer) answer))
answer-bytes group metas writer None = All-nil HasByte
answer-bytes group metas writer (Some placed) =
    All-cons HasByte (spelled_by group metas writer placed) [] (frame-byte group.layout _ _) (All-nil HasByte)

writer-bytes : (group : GroupPart) (metas : List MetaData) (past : List GroupDeed) (writer : ℕ) (took : Option WriterTurn) → All HasByte (list_of (frame_of_writer group metas past writer took))
writer-bytes group metas past writer None = All-nil HasByte
writer-bytes group metas past writer (Some turn) = answer-bytes group metas writer (answer_of group past writer turn)

pub frames-bytes : (group : GroupPart) (metas : List MetaData) (past : List GroupDeed) (writer : ℕ) (took : List (Option WriterTurn)) → All HasByte (frames_from group metas past writer took)
frames-bytes group metas past writer [] = All-nil HasByte
frames-bytes group metas past writer (turn ∷ rest) =
    All-append HasByte (list_of (frame_of_writer group metas past writer turn)) (frames_from group metas past (writer + 1) rest)
    (writer-bytes group metas past writer turn) (frames-bytes group metas past (writer + 1) rest)

-- ---- and so a payload

pack-some : (room big : ℕ) (frames : List Spelled) (cut : Bool) → 1 ≤ room → IsSound size_of big (record { frames = frames; cut = cut }) → All HasByte frames
    → 1 ≤ length (if cut then flat_map (chunk_payloads room) frames else frames_payload frames ∷ [])
pack-some room big [] cut some sound each = absurd (omega (arith, sound.some))
pack-some room big (frame ∷ frames) false some sound each = omega arith
pack-some room big (frame ∷ frames) true some sound each =
    let first : 1 ≤ size_of frame = All-head HasByte frame frames each in
    omega (arith, length-append (chunk_payloads room frame) (flat_map (chunk_payloads room) frames), length-chunks room frame, chunk-some room (size_of frame) some first)

packs-some : (room big : ℕ) (packs : List (Packed Spelled)) → 1 ≤ room → All (IsSound size_of big) packs → All HasByte (flat_map (λ (pack : Packed Spelled). pack.frames) packs)
    → 1 ≤ length (flat_map (λ (pack : Packed Spelled). pack.frames) packs) → 1 ≤ length (flat_map (pack_payloads room) packs)
packs-some room big [] some sound each long = absurd (omega (arith, long))
packs-some room big (pack ∷ packs) some sound each long =
    let rest = flat_map (λ (p : Packed Spelled). p.frames) packs in
    omega (
      arith,
      length-append (pack_payloads room pack) (flat_map (pack_payloads room) packs),
      pack-some room big pack.frames pack.cut some (All-head (IsSound size_of big) pack packs sound) ((each-left pack.frames rest each).0),
    )

payloads-some : (config : Config) (part : GroupPart) (metas : List MetaData) (frames : List Spelled) → 0 < length part.writer → lacks_room config.publisher.id metas part ≡ false
    → All HasByte frames → 0 < length frames → 0 < length (payloads_of config part frames)
payloads-some config part metas frames writers roomy each some = by_layout part.layout refl
  where
    by_layout : (l : Layout) → part.layout ≡ l → 0 < length (payloads_by l config part frames)
    by_layout layout.Dynamic same =
        let big = frame_room config.publisher.id part in
        let room : 1 ≤ chunk_room config.publisher.id part = chunk_roomy config.publisher.id metas part (record { dynamic = ap is_fixed same; room = roomy }) in
        let all : flat_map (λ (pack : Packed Spelled). pack.frames) (packs_of size_of big frames) ≡ frames = packs-frames size_of big frames in
        packs-some (chunk_room config.publisher.id part) big (packs_of size_of big frames) room (packs-sound size_of big frames)
        (subst (All HasByte) (sym all) each) (omega (arith, ap length all, some))
    by_layout layout.Fixed same = by_writers (nat_lt 0 (length part.writer)) refl
      where
        by_writers : (b : Bool) → nat_lt 0 (length part.writer) ≡ b → 0 < length {A = Payload} (if b then (NoIds, fixed_payload (fixed_header config.publisher.id part) (slots_of config part) (map (λ (f : Spelled). (f.writer, f.bytes)) frames)) ∷ [] else [])
        by_writers true is = omega arith
        by_writers false is = absurd (omega (arith, ltb-false 0 (length part.writer) is, writers))

-- ---- turns

pub turn-count : (config : Config) (part : GroupPart) (past : List GroupDeed) (input : TurnInput) → length (turn_datagrams config part past input) ≡ length (payloads_of config part (frames_in part past input))
turn-count config part past input = made-count (envelope_of config part past) input.sender (payloads_of config part (frames_in part past input))

pub turn-some : (config : Config) (part : GroupPart) (metas : List MetaData) (past : List GroupDeed) (input : TurnInput) → 0 < length part.writer → lacks_room config.publisher.id metas part ≡ false
    → 0 < length (frames_in part past input) → 0 < length (turn_datagrams config part past input)
turn-some config part metas past input writers roomy some =
    omega (
      arith,
      turn-count config part past input,
      payloads-some config part metas (frames_in part past input) writers roomy (frames-bytes part input.told.metas past 0 (turns_from part input.told 0 input.on)) some,
    )
