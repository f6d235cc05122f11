-- A turn makes at most 1,024 datagrams.
use Rattle.std.proofs.Common.{◌≡◌, refl, sym, ap, ◌∙◌, subst, arith, ℕ, suc, ◌+◌, ◌<◌, ◌≤◌, Bool, true, false, nat_lt, List, [], ◌∷◌, length, map, All, Option, Some, None}
use Rattle.std.specs.Prelude.{if◌then◌else◌, option_map, slice_index_or}
use Rattle.std.specs.List.{flat_map}
use Rattle.std.proofs.lemmas.Bool.{false≢true}
use Rattle.std.proofs.lemmas.List.{length-map}
use Rattle.std.proofs.lemmas.List.Elements.{All-nil, All-cons, All-append, All-weaker}
use Rattle.dataset_meta.specs.Metas.{MetaData, IsMeta, no_meta}
use Rattle.pubsub_model.specs.Frames.{PlacedFrame}
use Rattle.pubsub_model.specs.Cadence.{WriterTurn}
use Rattle.frame_codec.specs.Frames.{Frame, IsFrame}
use Rattle.frame_codec.specs.Spelling.{frame_bytes}
use Rattle.frame_codec.specs.Words.{spelled_frame}
use Rattle.frame_codec.proofs.Lengths.{frame_short, frame_some}
use Rattle.frame_codec.proofs.WordLaws.{words-of, words-back}
use Rattle.payload_layout.specs.Packing.{packs_of}
use Rattle.config_tables.specs.declared.words.Layout.{Layout}
use Rattle.config_tables.specs.declared.words.Layout.TheVariants as layouts
use Rattle.ps_config.specs.declared.parts.Config.{Config}
use Rattle.ps_config.specs.declared.parts.GroupPart.{GroupPart}
use Rattle.ps_config.specs.declared.parts.WriterPart.{WriterPart}
use Rattle.ps_config.specs.Rooms.{chunk_room, is_fixed, largest_frame}
use Rattle.ps_config.proofs.Roomy.{chunk_roomy, turn_roomy}
use Rattle.writer_group.specs.Answering.{AreAnswers, IsAnswerOf, IsFrameBy}
use Rattle.writer_group.specs.Envelopes.{frame_room}
use Rattle.writer_group.specs.Holding.{CargoValue, payload_in}
use Rattle.writer_group.specs.Payloads.{IsFrameIf, Spelled, carried_frame, fixed_header, meta_at, no_writer, pack_payloads, payloads_by, size_of, slots_of, spelled_as, spelled_by, writer_at}
use Rattle.writer_group.specs.Planning.{planned}
use Rattle.writer_group.specs.Sealing.{Payload}
use Rattle.writer_group.specs.Turns.{GroupDeed, TurnInput, answer_by, answer_of, answer_to, frame_of_writer, frames_from, frames_in, list_of, turn_datagrams, turns_from}
use Rattle.writer_group.proofs.AnsweringLaws.{length-turns}
use Rattle.writer_group.proofs.LargestFrame.{frame-largest}
use Rattle.writer_group.proofs.SomeDatagrams.{turn-count}
use Rattle.writer_group.proofs.TickLaws.{dynamic-payloads}
use Rattle.writer_group.proofs.Totals.{needs-few, planned-need}
use Rattle.writer_group.proofs.RisingFrames.{frames-rise}
use Rattle.writer_group.specs.Turning.{IsFitFor}

-- ---- in a dynamic layout

frame-long : (meta : MetaData) (frame : Frame) → IsMeta meta.fields → IsFrame meta frame → length (frame_bytes meta.quality frame) ≤ largest_frame meta
frame-long meta frame is_meta is =
    subst (λ (f : Frame). length (frame_bytes meta.quality f) ≤ largest_frame meta) (words-back meta frame is_meta is) (frame-largest meta (spelled_frame meta.fields frame) (words-of meta frame is_meta is))

frame-by : (part : WriterPart) (index : ℕ) (layout : Layout) (meta : MetaData) (placed : PlacedFrame) → is_fixed layout ≡ false → IsMeta meta.fields → IsFrame meta (carried_frame part meta placed)
    → IsFrameBy part index layout meta (spelled_as part index layout meta placed)
frame-by part index layouts.Fixed meta placed dynamic is_meta is = absurd (false≢true (sym dynamic))
frame-by part index layouts.Dynamic meta placed dynamic is_meta is = record {
  own = refl;
  placed = placed;
  spelled = refl;
  is_frame = is;
  some = frame_some meta.quality (carried_frame part meta placed);
  short = frame_short meta (carried_frame part meta placed) is_meta is.content;
  dynamic = λ e. frame-long meta (carried_frame part meta placed) is_meta is;
  fixed = λ e. absurd (false≢true e);
}

-- a frame of the first writers
record IsOne (part : GroupPart) (metas : List MetaData) (frame : Spelled) : Type 0 where
  pub answer : IsAnswerOf part metas frame
  pub below : frame.writer < length part.writer

module _ (part : GroupPart) (metas : List MetaData) (past : List GroupDeed) (dynamic : is_fixed part.layout ≡ false)
    (are_metas : (writer : ℕ) → writer < length part.writer → IsMeta (meta_at part metas writer).fields) where
  one-of : (writer : ℕ) (answer : Option PlacedFrame) → writer < length part.writer → IsFrameIf (writer_at part writer) (meta_at part metas writer) answer
      → All (IsOne part metas) (list_of (option_map (spelled_by part metas writer) answer))
  one-of writer None within is = All-nil (IsOne part metas)
  one-of writer (Some placed) within is =
      All-cons (IsOne part metas) (spelled_by part metas writer placed) []
      (record { answer = frame-by (writer_at part writer) writer part.layout (meta_at part metas writer) placed dynamic (are_metas writer within) is; below = within })
      (All-nil (IsOne part metas))

  took-one : (writer : ℕ) (took : Option WriterTurn) → writer < length part.writer → IsFrameIf (writer_at part writer) (meta_at part metas writer) (answer_to part past writer took)
      → All (IsOne part metas) (list_of (frame_of_writer part metas past writer took))
  took-one writer None within is = All-nil (IsOne part metas)
  took-one writer (Some turn) within is = one-of writer (answer_of part past writer turn) within is

  frames-one : (from : ℕ) (tooks : List (Option WriterTurn)) → from + length tooks ≤ length part.writer
      → ((k : ℕ) → k < length tooks → IsFrameIf (writer_at part (from + k)) (meta_at part metas (from + k)) (answer_to part past (from + k) (slice_index_or tooks k None)))
      → All (IsOne part metas) (frames_from part metas past from tooks)
  frames-one from [] fit are = All-nil (IsOne part metas)
  frames-one from (took ∷ tooks) fit are =
      let here : from + 0 ≡ from = omega arith in
      All-append (IsOne part metas) (list_of (frame_of_writer part metas past from took)) (frames_from part metas past (from + 1) tooks)
      (took-one from took (omega (arith, fit)) (subst (λ (w : ℕ). IsFrameIf (writer_at part w) (meta_at part metas w) (answer_to part past w took)) here (are 0 (omega arith))))
      (frames-one (from + 1) tooks (omega (arith, fit)) (λ k below.
      let there : from + suc k ≡ from + 1 + k = omega arith in
      subst (λ (w : ℕ). IsFrameIf (writer_at part w) (meta_at part metas w) (answer_to part past w (slice_index_or tooks k None))) there (are (suc k) (omega (arith, below)))))

meta-is : (part : GroupPart) (metas : List MetaData) → All (λ (meta : MetaData). IsMeta meta.fields) metas → All (λ (w : WriterPart). w.dataset < length metas) part.writer → (writer : ℕ) → writer < length part.writer
    → IsMeta (meta_at part metas writer).fields
meta-is part metas are known writer within = are (writer_at part writer).dataset no_meta (known writer no_writer within)

dynamic-few : (config : Config) (part : GroupPart) (metas : List MetaData) (frames : List Spelled) → is_fixed part.layout ≡ false → IsFitFor config part metas → AreAnswers part metas (length part.writer) frames
    → length (flat_map (pack_payloads (chunk_room config.publisher.id part)) (packs_of size_of (frame_room config.publisher.id part) frames)) ≤ 1024
dynamic-few config part metas frames dynamic fit answers =
    let big = frame_room config.publisher.id part in
    let room = chunk_room config.publisher.id part in
    let some : 1 ≤ room = chunk_roomy config.publisher.id metas part (record { dynamic = dynamic; room = fit.room }) in
    let bytes : All (λ (f : Spelled). 1 ≤ size_of f) frames = All-weaker (IsAnswerOf part metas) (λ (f : Spelled). 1 ≤ size_of f) (λ (f : Spelled) (is : IsAnswerOf part metas f). is.some) frames answers.each in
    let cargo : CargoValue = record { frames = frames; room = room; start = fixed_header config.publisher.id part; slots = slots_of config part } in
    let same = dynamic-payloads config part cargo frames (record { frames_are = refl; room = refl; start = refl; slots = λ e. refl }) in
    omega (
      arith,
      sym (ap (λ (l : List Payload). length l) same) ∙ length-map (planned big room (map size_of frames)) (payload_in cargo),
      planned-need frames big room some bytes,
      needs-few room part metas frames some dynamic fit.known answers,
      turn_roomy config.publisher.id metas part (record { dynamic = dynamic; room = fit.room }),
    )

-- ---- and in a fixed one

fixed-few : (b : Bool) (payload : Payload) → length {A = Payload} (if b then payload ∷ [] else []) ≤ 1024
fixed-few true payload = omega arith
fixed-few false payload = omega arith

pub turn-few : (config : Config) (part : GroupPart) (past : List GroupDeed) (input : TurnInput) → IsFitFor config part input.told.metas → length input.on ≤ length part.writer
    → ((writer : ℕ) → writer < length part.writer → IsFrameIf (writer_at part writer) (meta_at part input.told.metas writer) (answer_by part past input writer))
    → length (turn_datagrams config part past input) ≤ 1024
turn-few config part past input fit few are = let count = turn-count config part past input in let most = by-layout part.layout refl in omega (arith, count, most)
  where
    by-layout : (l : Layout) → part.layout ≡ l → length (payloads_by l config part (frames_in part past input)) ≤ 1024
    by-layout layouts.Fixed same = fixed-few (nat_lt 0 (length part.writer)) _
    by-layout layouts.Dynamic same =
        let metas = input.told.metas in
        let dynamic : is_fixed part.layout ≡ false = ap is_fixed same in
        let tooks = turns_from part input.told 0 input.on in
        let many = length-turns part input.told 0 input.on in
        let ones = frames-one part metas past dynamic (meta-is part metas fit.metas_are fit.known) 0 tooks (omega (arith, many, few)) (λ k below.
        let here : k ≡ 0 + k = omega arith in
        subst (λ (w : ℕ). IsFrameIf (writer_at part w) (meta_at part metas w) (answer_to part past w (slice_index_or tooks k None))) here (are k (omega (arith, below, many, few)))) in
        let frames = frames_in part past input in
        dynamic-few config part metas frames dynamic fit (record {
          each = All-weaker (IsOne part metas) (IsAnswerOf part metas) (λ (f : Spelled) (is : IsOne part metas f). is.answer) frames ones;
          below = All-weaker (IsOne part metas) (λ (f : Spelled). f.writer < length part.writer) (λ (f : Spelled) (is : IsOne part metas f). is.below) frames ones;
          rise = frames-rise part metas past 0 tooks;
        })
