-- The frames of a turn of a fixed group: key frames alone, each of which fits its writer's slot, and one of a writer at most.
use Rattle.std.proofs.Common.{◌≡◌, ◌≢◌, refl, sym, ap, ◌∙◌, subst, arith, ℕ, zero, suc, ◌+◌, ◌<◌, ◌≤◌, ◌⊎◌, inl, inr, Bool, true, false, ◌||◌, List, [], ◌∷◌, ◌++◌, length, map, get_or, length-append, All, AllPairs, Contains, Option, Some, None}
use Rattle.std.specs.Prelude.{nat_le, option_map, slice_index_or, if◌then◌else◌}
use Rattle.std.specs.Option.{option_map_or}
use Rattle.std.specs.Int.{w32, to_le_bytes}
use Rattle.std.specs.List.{position_or_len}
use Rattle.std.proofs.lemmas.Bool.{cases_lt, le-leb}
use Rattle.std.proofs.lemmas.List.{get_or-map, length-map}
use Rattle.std.proofs.lemmas.List.Elements.{All-cons, All-nil, All-map, All-append}
use Rattle.std.proofs.lemmas.Option.{slice_get-get_or}
use Rattle.ua_binary.specs.Wire.{optional}
use Rattle.dataset_meta.specs.DataValues.{DataValue}
use Rattle.dataset_meta.specs.Metas.{MetaData, no_meta}
use Rattle.dataset_meta.specs.Rows.{IsRow, differs}
use Rattle.pubsub_model.specs.Frames.{PlacedFrame, Whole}
use Rattle.pubsub_model.specs.Cadence.{Settings, WriterTurn, Answered, answer, cadence, change_answer, is_data, is_fresh, is_key, is_key_due, last_turn, next_place}
use Rattle.dataset_writer.specs.Turns.{model_settings}
use Rattle.frame_codec.specs.Carrying.{version_if}
use Rattle.frame_codec.specs.Spelling.{front_bytes}
use Rattle.frame_codec.proofs.Lengths.{length-front_bytes}
use Rattle.fixed_layout.specs.declared.slot.Slot.{Slot}
use Rattle.fixed_layout.specs.Datagrams.{AreFrames, slot_at}
use Rattle.fixed_layout.specs.Spelling.{raw_row, raw_size}
use Rattle.fixed_layout.proofs.Sizes.{length-raw_row}
use Rattle.frame_codec.specs.Frames.{IsFrame}
use Rattle.config_tables.specs.declared.words.Layout.{Layout}
use Rattle.config_tables.specs.declared.words.Layout.TheVariants as layouts
use Rattle.ps_config.specs.declared.parts.Config.{Config}
use Rattle.ps_config.specs.declared.parts.GroupPart.{GroupPart}
use Rattle.ps_config.specs.declared.parts.WriterPart.{WriterPart}
use Rattle.ps_config.specs.FixedSound.{IsFixedGroup, front_size, raw_size_of, writer_slot}
use Rattle.ps_config.specs.Sound.{IsGroup}
use Rattle.writer_group.specs.Payloads.{IsFrameIf, Spelled, size_of, spelled_by, carried_frame, laid_frame, raw_frame, writer_at, meta_at, no_writer, slots_of}
use Rattle.writer_group.specs.Turns.{GroupDeed, TurnInput, answer_of, frame_of_writer, frames_from, list_of, settings_of, writer_past, answer_to}
use Rattle.writer_group.proofs.RisingFrames.{IsFrom, RisesTo}

-- ---- a key frame at each turn

or-true : (a : Bool) → (a || true) ≡ true
or-true true = refl
or-true false = refl

key-due : (s : Settings) (fresh : Bool) (before : List Answered) (turn : WriterTurn) → s.key_frame_count ≡ 1 → is_key_due s fresh before turn ≡ true
key-due s fresh before turn one =
    let late : nat_le 1 (position_or_len is_key before + 1) ≡ true = le-leb 1 (position_or_len is_key before + 1) (omega arith) in
    ap (λ (n : ℕ). fresh || turn.closing || nat_le n (position_or_len is_key before + 1)) one
    ∙ ap (λ (b : Bool). fresh || turn.closing || b) late ∙ or-true (fresh || turn.closing)

pub always-whole : (s : Settings) (fresh : Bool) (before : List Answered) (turn : WriterTurn) → s.key_frame_count ≡ 1 → answer s fresh before turn ≡ Some (Whole (next_place s before) turn.row)
always-whole s fresh before turn one =
    ap (λ (b : Bool). if b then Some (Whole (next_place s before) turn.row) else change_answer s before turn (differs (last_turn is_data before).row turn.row)) (key-due s fresh before turn one)

-- ---- how long it is

versions-len : (versions : Bool) (major minor : ℕ) → 3 + length (optional (to_le_bytes w32) (version_if versions major)) + length (optional (to_le_bytes w32) (version_if versions minor)) ≡ front_size versions
versions-len true major minor = omega arith
versions-len false major minor = omega arith

whole-len : (writer : WriterPart) (meta : MetaData) (place : ℕ) (row : List DataValue) → IsRow meta row → length (raw_frame meta.fields (carried_frame writer meta (Whole place row))) ≡ front_size writer.versions + raw_size meta.fields
whole-len writer meta place row is =
    let frame = carried_frame writer meta (Whole place row) in
    omega (
      arith,
      length-append (front_bytes 1 frame) (raw_row meta.fields row),
      length-front_bytes 1 frame,
      versions-len writer.versions meta.major meta.minor,
      length-raw_row meta.quality meta.fields row is,
    )

pub own-slot : (config : Config) (group : GroupPart) (writer : ℕ) → writer < length group.writer → slot_at (slots_of config group) writer ≡ writer_slot config (writer_at group writer)
own-slot config group writer within = get_or-map (writer_slot config) group.writer writer no_writer (record { offset = 0; size = 0; need = 0 }) within

-- a frame that fits the slot of a writer of the group
pub record IsSlotted (config : Config) (group : GroupPart) (frame : Spelled) : Type 0 where
  pub within : frame.writer < length group.writer
  pub fits : size_of frame ≤ (slot_at (slots_of config group) frame.writer).size

-- what the writer answers with its turn is a frame of its data set
abbrev pub IsAnswered : GroupPart → List GroupDeed → TurnInput → ℕ → Option WriterTurn → Type 0
IsAnswered group past input writer took = IsFrameIf (writer_at group writer) (meta_at group input.told.metas writer) (answer_to group past writer took)

row-of : (writer : WriterPart) (meta : MetaData) (answer : Option PlacedFrame) (place : ℕ) (row : List DataValue) → answer ≡ Some (Whole place row) → IsFrameIf writer meta answer → IsRow meta row
row-of writer meta answer place row e is = let frame : IsFrame meta (carried_frame writer meta (Whole place row)) = subst (IsFrameIf writer meta) e is in frame.content

module _ (config : Config) (group : GroupPart) (past : List GroupDeed) (input : TurnInput) (layout : group.layout ≡ layouts.Fixed) (fixed : IsFixedGroup config group) (is : IsGroup config group)
    (same : (writer : ℕ) → writer < length group.writer → meta_at group input.told.metas writer ≡ meta_at group config.dataset writer) where
  abbrev told_metas : List MetaData
  told_metas = input.told.metas

  abbrev settings : ℕ → Settings
  settings writer = model_settings (settings_of (writer_at group writer))

  -- the answer at a turn
  pub turn-whole : (writer : ℕ) (turn : WriterTurn) → writer < length group.writer
      → answer_of group past writer turn ≡ Some (Whole (next_place (settings writer) (cadence (settings writer) (writer_past writer past))) turn.row)
  turn-whole writer turn within =
      always-whole (settings writer) (is_fresh (writer_past writer past)) (cadence (settings writer) (writer_past writer past)) turn (fixed.writers writer no_writer within).whole

  whole-fits : (writer place : ℕ) (row : List DataValue) → writer < length group.writer → IsRow (meta_at group told_metas writer) row → IsSlotted config group (spelled_by group told_metas writer (Whole place row))
  whole-fits writer place row within row_is =
      let part = writer_at group writer in
      let meta = meta_at group told_metas writer in
      let bytes_are : size_of (spelled_by group told_metas writer (Whole place row)) ≡ length (raw_frame meta.fields (carried_frame part meta (Whole place row))) = ap (λ (l : Layout). length (laid_frame l meta (carried_frame part meta (Whole place row)))) layout in
      let long = whole-len part meta place row row_is in
      let slot = own-slot config group writer within in
      let known = (is.writers writer no_writer within).dataset in
      let raw : raw_size_of config part.dataset ≡ raw_size (meta_at group config.dataset writer).fields =
      ap (λ (o : Option MetaData). option_map_or (λ (m : MetaData). raw_size m.fields) o 0) (slice_get-get_or config.dataset part.dataset no_meta known) in
      let here : raw_size (meta_at group config.dataset writer).fields ≡ raw_size meta.fields = ap (λ (m : MetaData). raw_size m.fields) (sym (same writer within)) in
      let large : (slot_at (slots_of config group) writer).need ≤ (slot_at (slots_of config group) writer).size =
      fixed.slots.large writer (record { offset = 0; size = 0; need = 0 }) (omega (arith, length-map group.writer (writer_slot config), within)) in
      let need : (slot_at (slots_of config group) writer).need ≡ front_size part.versions + raw_size_of config part.dataset = ap (λ (s : Slot). s.need) slot in
      record { within = within; fits = omega (arith, bytes_are, long, raw, here, large, need) }

  answer-slotted : (writer : ℕ) (turn : WriterTurn) (answer : Option PlacedFrame) (place : ℕ) → writer < length group.writer → IsRow (meta_at group told_metas writer) turn.row → answer ≡ Some (Whole place turn.row)
      → All (IsSlotted config group) (list_of (option_map (spelled_by group told_metas writer) answer))
  answer-slotted writer turn answer place within row e =
      subst (λ (o : Option PlacedFrame). All (IsSlotted config group) (list_of (option_map (spelled_by group told_metas writer) o))) (sym e)
      (All-cons (IsSlotted config group) (spelled_by group told_metas writer (Whole place turn.row)) [] (whole-fits writer place turn.row within row) (All-nil (IsSlotted config group)))

  took-slotted : (writer : ℕ) (took : Option WriterTurn) → writer < length group.writer → IsAnswered group past input writer took → All (IsSlotted config group) (list_of (frame_of_writer group told_metas past writer took))
  took-slotted writer None within rows = All-nil (IsSlotted config group)
  took-slotted writer (Some turn) within rows = answer-slotted writer turn (answer_of group past writer turn) _ within (row-of (writer_at group writer) (meta_at group told_metas writer) (answer_of group past writer turn) _ turn.row (turn-whole writer turn within) rows) (turn-whole writer turn within)

  pub frames-slotted : (from : ℕ) (tooks : List (Option WriterTurn)) → from + length tooks ≤ length group.writer
      → ((k : ℕ) → k < length tooks → IsAnswered group past input (from + k) (slice_index_or tooks k None)) → All (IsSlotted config group) (frames_from group told_metas past from tooks)
  frames-slotted from [] fit rows = All-nil (IsSlotted config group)
  frames-slotted from (took ∷ tooks) fit rows =
      let here : from + 0 ≡ from = omega arith in
      All-append (IsSlotted config group) (list_of (frame_of_writer group told_metas past from took)) (frames_from group told_metas past (from + 1) tooks)
      (took-slotted from took (omega (arith, fit)) (subst (λ (w : ℕ). IsAnswered group past input w took) here (rows 0 (omega arith))))
      (frames-slotted (from + 1) tooks (omega (arith, fit)) (λ k below.
      let there : from + suc k ≡ from + 1 + k = omega arith in
      subst (λ (w : ℕ). IsAnswered group past input w (slice_index_or tooks k None)) there (rows (suc k) (omega (arith, below)))))

-- ---- of a writer one at most

answer-from : (group : GroupPart) (metas : List MetaData) (writer : ℕ) (answer : Option PlacedFrame) (low : ℕ) → low ≤ writer → All (IsFrom low) (list_of (option_map (spelled_by group metas writer) answer))
answer-from group metas writer None low le = All-nil (IsFrom low)
answer-from group metas writer (Some placed) low le = All-cons (IsFrom low) (spelled_by group metas writer placed) [] le (All-nil (IsFrom low))

took-from : (group : GroupPart) (metas : List MetaData) (past : List GroupDeed) (writer : ℕ) (took : Option WriterTurn) (low : ℕ) → low ≤ writer → All (IsFrom low) (list_of (frame_of_writer group metas past writer took))
took-from group metas past writer None low le = All-nil (IsFrom low)
took-from group metas past writer (Some turn) low le = answer-from group metas writer (answer_of group past writer turn) low le

frames-low : (group : GroupPart) (metas : List MetaData) (past : List GroupDeed) (from low : ℕ) (tooks : List (Option WriterTurn)) → low ≤ from → All (IsFrom low) (frames_from group metas past from tooks)
frames-low group metas past from low [] le = All-nil (IsFrom low)
frames-low group metas past from low (took ∷ tooks) le =
    All-append (IsFrom low) (list_of (frame_of_writer group metas past from took)) (frames_from group metas past (from + 1) tooks) (took-from group metas past from took low le)
    (frames-low group metas past (from + 1) low tooks (omega (arith, le)))

abbrev pub in_slot : Spelled → ℕ × List ℕ
in_slot frame = (frame.writer, frame.bytes)

no_frame : Spelled
no_frame = record { writer = 0; id = 0; number = 0; bytes = [] }

same-place : (frames : List Spelled) (i j : ℕ) → AllPairs RisesTo frames → i < length frames → j < length frames → (get_or frames i no_frame).writer ≡ (get_or frames j no_frame).writer → i ≡ j
same-place frames i j rise of_i of_j same = on (cases_lt i j) (cases_lt j i)
  where
    on : (i < j) ⊎ (j ≤ i) → (j < i) ⊎ (i ≤ j) → i ≡ j
    on (inl less) other = let h = rise i j no_frame less of_j in absurd (omega (arith, same, h))
    on (inr le) (inl more) = let h = rise j i no_frame more of_i in absurd (omega (arith, same, h))
    on (inr le) (inr ge) = omega (arith, le, ge)

frame-there : (frames : List Spelled) (x : ℕ × List ℕ) (k : ℕ) → k < length (map in_slot frames) → get_or (map in_slot frames) k x ≡ x → in_slot (get_or frames k no_frame) ≡ x
frame-there frames x k within is =
    let below : k < length frames = omega (arith, length-map frames in_slot, within) in
    sym (get_or-map in_slot frames k no_frame x below) ∙ is

one-each : (frames : List Spelled) → AllPairs RisesTo frames → (one other : ℕ × List ℕ) → Contains (map in_slot frames) one → Contains (map in_slot frames) other → one.0 ≡ other.0 → one ≡ other
one-each frames rise one other has_one has_other same =
    let first = frame-there frames one has_one.0 has_one.1 has_one.2 in
    let second = frame-there frames other has_other.0 has_other.1 has_other.2 in
    let below_one = has_one.1 in
    let below_other = has_other.1 in
    let writers : (get_or frames has_one.0 no_frame).writer ≡ (get_or frames has_other.0 no_frame).writer = ap (λ (x : ℕ × List ℕ). x.0) first ∙ same ∙ sym (ap (λ (x : ℕ × List ℕ). x.0) second) in
    let places = same-place frames has_one.0 has_other.0 rise (omega (arith, length-map frames in_slot, below_one)) (omega (arith, length-map frames in_slot, below_other)) writers in
    sym first ∙ ap (λ (k : ℕ). in_slot (get_or frames k no_frame)) places ∙ second

pub are-frames : (config : Config) (group : GroupPart) (frames : List Spelled) → All (IsSlotted config group) frames → AllPairs RisesTo frames → AreFrames (slots_of config group) (map in_slot frames)
are-frames config group frames slotted rise =
    let many = length-map group.writer (writer_slot config) in
    record {
      known = All-map (λ (f : ℕ × List ℕ). f.0 < length (slots_of config group)) in_slot frames (λ k d below. let h = (slotted k d below).within in omega (arith, many, h));
      fit = All-map (λ (f : ℕ × List ℕ). length f.1 ≤ (slot_at (slots_of config group) f.0).size) in_slot frames (λ k d below. (slotted k d below).fits);
      one_each = one-each frames rise;
    }

-- ---- the frame of one writer

pub has-frame : (group : GroupPart) (metas : List MetaData) (past : List GroupDeed) (from k writer : ℕ) (tooks : List (Option WriterTurn)) (frame : Spelled) → from + k ≡ writer
    → frame_of_writer group metas past writer (slice_index_or tooks k None) ≡ Some frame → Contains (frames_from group metas past from tooks) frame
has-frame group metas past from k writer [] frame at e = absurd (let wrong : Path (Option Spelled) None (Some frame) = e in cc)
has-frame group metas past from zero writer (took ∷ tooks) frame at e =
    let here : frame_of_writer group metas past from took ≡ Some frame = ap (λ (w : ℕ). frame_of_writer group metas past w took) (omega (arith, at)) ∙ e in
    subst (λ (o : Option Spelled). Contains (list_of o ++ frames_from group metas past (from + 1) tooks) frame) (sym here) (0, omega arith, refl)
has-frame group metas past from (suc k) writer (took ∷ tooks) frame at e =
    Rattle.std.proofs.lemmas.List.Elements.Contains-append_right (list_of (frame_of_writer group metas past from took)) (frames_from group metas past (from + 1) tooks) frame
    (has-frame group metas past (from + 1) k writer tooks frame (omega (arith, at)) e)

abbrev IsOther : ℕ → Spelled → Type 0
IsOther writer frame = frame.writer ≢ writer

took-other : (group : GroupPart) (metas : List MetaData) (past : List GroupDeed) (from writer : ℕ) (took : Option WriterTurn) → from ≢ writer → All (IsOther writer) (list_of (frame_of_writer group metas past from took))
took-other group metas past from writer None other = All-nil (IsOther writer)
took-other group metas past from writer (Some turn) other = on (answer_of group past from turn)
  where
    on : (answer : Option PlacedFrame) → All (IsOther writer) (list_of (option_map (spelled_by group metas from) answer))
    on None = All-nil (IsOther writer)
    on (Some placed) = All-cons (IsOther writer) (spelled_by group metas from placed) [] other (All-nil (IsOther writer))

pub has-none : (group : GroupPart) (metas : List MetaData) (past : List GroupDeed) (from k writer : ℕ) (tooks : List (Option WriterTurn)) → from + k ≡ writer
    → frame_of_writer group metas past writer (slice_index_or tooks k None) ≡ None → All (λ frame. frame.writer ≢ writer) (frames_from group metas past from tooks)
has-none group metas past from k writer [] at e = All-nil (IsOther writer)
has-none group metas past from zero writer (took ∷ tooks) at e =
    let here : frame_of_writer group metas past from took ≡ None = ap (λ (w : ℕ). frame_of_writer group metas past w took) (omega (arith, at)) ∙ e in
    subst (λ (o : Option Spelled). All (IsOther writer) (list_of o ++ frames_from group metas past (from + 1) tooks)) (sym here)
    (λ j d below. λ same. let h = frames-low group metas past (from + 1) (from + 1) tooks (omega arith) j d below in absurd (omega (arith, same, h, at)))
has-none group metas past from (suc k) writer (took ∷ tooks) at e =
    All-append (IsOther writer) (list_of (frame_of_writer group metas past from took)) (frames_from group metas past (from + 1) tooks)
    (took-other group metas past from writer took (λ same. absurd (omega (arith, same, at)))) (has-none group metas past (from + 1) k writer tooks (omega (arith, at)) e)
