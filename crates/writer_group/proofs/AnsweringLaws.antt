-- The turns of a group's writers, one after another.
use Rattle.std.proofs.Common.{◌≡◌, ◌≢◌, ℕ, zero, suc, ◌+◌, ◌<◌, ◌≤◌, Bool, List, [], ◌∷◌, ◌++◌, length, take, get_or, set, refl, sym, ap, subst, ◌∙◌, append-nil, append_assoc, arith, inl, inr, Option, Some, None}
use Rattle.std.specs.Prelude.{◌⊎◌, option_map}
use Rattle.std.specs.List.{HoldsAt}
use Rattle.std.proofs.lemmas.Bool.{cases_eq, cases_lt}
use Rattle.std.proofs.lemmas.List.{take_more, take_all, get_or-set_same, get_or-set_other, get_or-take, get_or_past, length-take-le}
use Rattle.dataset_meta.specs.Metas.{MetaData}
use Rattle.frame_codec.specs.declared.frame.Frame.{Frame as FrameWords}
use Rattle.frame_codec.specs.Frames.{Frame}
use Rattle.frame_codec.specs.Words.{frame_in}
use Rattle.pubsub_model.specs.Frames.{PlacedFrame}
use Rattle.pubsub_model.specs.Cadence.{WriterTurn, WriterDeed}
use Rattle.dataset_writer.specs.declared.writer.Writer.{Writer}
use Rattle.dataset_writer.specs.Standing.{IsWriter}
use Rattle.config_tables.specs.declared.words.Layout.{Layout}
use Rattle.ps_config.specs.declared.parts.GroupPart.{GroupPart}
use Rattle.ps_config.specs.declared.parts.WriterPart.{WriterPart}
use Rattle.writer_group.specs.Answering.{HasAnswered, HaveAnswered, StandAfter, answer_if, deeds_with, frame_if}
use Rattle.writer_group.specs.Holding.{number_or_zero, spelled_words}
use Rattle.writer_group.specs.Payloads.{IsFrameIf, Spelled, carried_frame, laid_frame, meta_at, writer_at, spelled_as}
use Rattle.writer_group.specs.Turns.{GroupDeed, Told, answer_to, frame_of_writer, frames_from, list_of, settings_of, turn_if, turns_from, writer_past}

-- ---- one writer

abbrev spelled_with : ℕ → ℕ → ℕ → List ℕ → Spelled
spelled_with writer id number bytes = record { writer = writer; id = id; number = number; bytes = bytes }

pub spelled-answer : (part : WriterPart) (index : ℕ) (layout : Layout) (meta : MetaData) (frame : FrameWords) (placed : PlacedFrame)
    → frame_in meta.fields frame ≡ carried_frame part meta placed → spelled_words layout index part meta frame ≡ spelled_as part index layout meta placed
spelled-answer part index layout meta frame placed same =
    ap (λ (f : Frame). spelled_with index part.id (number_or_zero f.number) (laid_frame layout meta f)) same

answered-some : (part : WriterPart) (index : ℕ) (layout : Layout) (meta : MetaData) (frame : FrameWords) (answer : Option PlacedFrame)
    → Path (Option Frame) (Some (frame_in meta.fields frame)) (option_map (carried_frame part meta) answer)
    → spelled_words layout index part meta frame ∷ [] ≡ list_of (option_map (spelled_as part index layout meta) answer)
answered-some part index layout meta frame None same = cc
answered-some part index layout meta frame (Some placed) same =
    let inner : frame_in meta.fields frame ≡ carried_frame part meta placed = cc in
    ap (λ (x : Spelled). x ∷ []) (spelled-answer part index layout meta frame placed inner)

answered-none : (part : WriterPart) (index : ℕ) (layout : Layout) (meta : MetaData) (answer : Option PlacedFrame)
    → Path (Option Frame) None (option_map (carried_frame part meta) answer) → list_of (option_map (spelled_as part index layout meta) answer) ≡ []
answered-none part index layout meta None same = refl
answered-none part index layout meta (Some placed) same = cc

pub sent-frame : (part : WriterPart) (index : ℕ) (layout : Layout) (meta : MetaData) (frame : FrameWords) (turn : WriterTurn) (deeds : List WriterDeed)
    → Path (Option Frame) (Some (frame_in meta.fields frame)) (option_map (carried_frame part meta) (answer_if part (Some turn) deeds))
    → spelled_words layout index part meta frame ∷ [] ≡ frame_if part index layout meta (Some turn) deeds
sent-frame part index layout meta frame turn deeds same = answered-some part index layout meta frame (answer_if part (Some turn) deeds) same

pub no-frame : (part : WriterPart) (index : ℕ) (layout : Layout) (meta : MetaData) (turn : WriterTurn) (deeds : List WriterDeed)
    → Path (Option Frame) None (option_map (carried_frame part meta) (answer_if part (Some turn) deeds))
    → frame_if part index layout meta (Some turn) deeds ≡ []
no-frame part index layout meta turn deeds same = answered-none part index layout meta (answer_if part (Some turn) deeds) same

-- ---- all writers

pub length-turns : (part : GroupPart) (told : Told) (writer : ℕ) (on : List Bool) → length (turns_from part told writer on) ≡ length on
length-turns part told writer [] = refl
length-turns part told writer (b ∷ on) = ap suc (length-turns part told (writer + 1) on)

turn-from : (part : GroupPart) (told : Told) (writer : ℕ) (on : List Bool) (index : ℕ) (d : Bool) → index < length on
    → get_or (turns_from part told writer on) index None ≡ turn_if part told (writer + index) (get_or on index d)
turn-from part told writer [] index d within = absurd (omega arith)
turn-from part told writer (b ∷ on) zero d within =
    let here : writer ≡ writer + 0 = omega arith in
    ap (λ (n : ℕ). turn_if part told n b) here
turn-from part told writer (b ∷ on) (suc index) d within =
    let far : writer + 1 + index ≡ writer + suc index = omega arith in
    turn-from part told (writer + 1) on index d (omega arith) ∙ ap (λ (n : ℕ). turn_if part told n (get_or on index d)) far

pub turn-at : (part : GroupPart) (told : Told) (on : List Bool) (index : ℕ) (d : Bool) → index < length on
    → get_or (turns_from part told 0 on) index None ≡ turn_if part told index (get_or on index d)
turn-at part told on index d within =
    let none : 0 + index ≡ index = omega arith in
    turn-from part told 0 on index d within ∙ ap (λ (n : ℕ). turn_if part told n (get_or on index d)) none

frames-push : (part : GroupPart) (metas : List MetaData) (past : List GroupDeed) (writer : ℕ) (turns : List (Option WriterTurn)) (turn : Option WriterTurn)
    → frames_from part metas past writer (turns ++ turn ∷ []) ≡ frames_from part metas past writer turns ++ list_of (frame_of_writer part metas past (writer + length turns) turn)
frames-push part metas past writer [] turn =
    let here : writer ≡ writer + 0 = omega arith in
    append-nil (list_of (frame_of_writer part metas past writer turn)) ∙ ap (λ (n : ℕ). list_of (frame_of_writer part metas past n turn)) here
frames-push part metas past writer (t ∷ turns) turn =
    let far : writer + 1 + length turns ≡ writer + suc (length turns) = omega arith in
    let front = list_of (frame_of_writer part metas past writer t) in
    let more = frames_from part metas past (writer + 1) turns in
    ap (λ (l : List Spelled). front ++ l) (frames-push part metas past (writer + 1) turns turn)
    ∙ sym (append_assoc front more (list_of (frame_of_writer part metas past (writer + 1 + length turns) turn)))
    ∙ ap (λ (n : ℕ). (front ++ more) ++ list_of (frame_of_writer part metas past n turn)) far

own-frame : (part : GroupPart) (metas : List MetaData) (past : List GroupDeed) (writer : ℕ) (took : Option WriterTurn)
    → frame_if (writer_at part writer) writer part.layout (meta_at part metas writer) took (writer_past writer past) ≡ list_of (frame_of_writer part metas past writer took)
own-frame part metas past writer None = refl
own-frame part metas past writer (Some turn) = refl

-- what the writer answers with its turn is a frame of its data set
abbrev pub IsFrameAt : GroupPart → List MetaData → List GroupDeed → ℕ → Option WriterTurn → Type 0
IsFrameAt part metas past writer took = IsFrameIf (writer_at part writer) (meta_at part metas writer) (answer_to part past writer took)

own-answer : (part : GroupPart) (metas : List MetaData) (past : List GroupDeed) (writer : ℕ) (took : Option WriterTurn)
    → IsFrameIf (writer_at part writer) (meta_at part metas writer) (answer_if (writer_at part writer) took (writer_past writer past)) → IsFrameAt part metas past writer took
own-answer part metas past writer None is = tt
own-answer part metas past writer (Some turn) is = is

-- the first writers had their turns
pub record HaveSoFar (part : GroupPart) (metas : List MetaData) (past : List GroupDeed) (turns : List (Option WriterTurn)) (old now : List Writer) (index : ℕ) (frames : List Spelled) : Type 0 where
  pub stands : StandAfter part metas past [] old → StandAfter part metas past (take index turns) now
  pub frames_are : StandAfter part metas past [] old → frames ≡ frames_from part metas past 0 (take index turns)
  pub are_frames : StandAfter part metas past [] old → (writer : ℕ) → IsFrameAt part metas past writer (get_or (take index turns) writer None)

pub none-so-far : (part : GroupPart) (metas : List MetaData) (past : List GroupDeed) (turns : List (Option WriterTurn)) (old : List Writer) (frames : List Spelled) → frames ≡ []
    → HaveSoFar part metas past turns old old 0 frames
none-so-far part metas past turns old frames none = record { stands = λ s. s; frames_are = λ s. none; are_frames = λ s writer. tt }

-- the next writer, which has this turn, had it
pub record IsNext (turns : List (Option WriterTurn)) (now after : List Writer) (index : ℕ) (writer new : Writer) : Type 0 where
  pub below : index < length turns
  pub within : index < length now
  pub old_is : (d : Writer) → get_or now index d ≡ writer
  pub after_is : after ≡ set now index new

past-end : (turns : List (Option WriterTurn)) (index : ℕ) → index < length turns → get_or (take index turns) index None ≡ None
past-end turns index below = get_or_past (take index turns) index None (omega (arith, length-take-le index turns (omega arith)))

took-now : (turns : List (Option WriterTurn)) (index : ℕ) → index < length turns → get_or (take (index + 1) turns) index None ≡ get_or turns index None
took-now turns index below = get_or-take (index + 1) turns index None (omega arith)

took-other : (turns : List (Option WriterTurn)) (index other : ℕ) → index < length turns → other ≢ index → get_or (take (index + 1) turns) other None ≡ get_or (take index turns) other None
took-other turns index other below differs = by_order (cases_lt other index)
  where
    by_order : (other < index) ⊎ (index ≤ other) → get_or (take (index + 1) turns) other None ≡ get_or (take index turns) other None
    by_order (inl before) = get_or-take (index + 1) turns other None (omega arith) ∙ sym (get_or-take index turns other None before)
    by_order (inr behind) =
        let above : index < other = omega (arith, above_of (cases_lt index other)) in
        get_or_past (take (index + 1) turns) other None (omega (arith, length-take-le (index + 1) turns (omega arith)))
        ∙ sym (get_or_past (take index turns) other None (omega (arith, length-take-le index turns (omega arith))))
      where
        above_of : (index < other) ⊎ (other ≤ index) → index < other
        above_of (inl less) = less
        above_of (inr more) = absurd (differs (omega arith))

abbrev Stands : GroupPart → List MetaData → List GroupDeed → ℕ → Option WriterTurn → Writer → Type 0
Stands part metas past writer took x = IsWriter (meta_at part metas writer) (settings_of (writer_at part writer)) (deeds_with writer past took) x

stand-here : (part : GroupPart) (metas : List MetaData) (past : List GroupDeed) (turns : List (Option WriterTurn)) (now after : List Writer) (index : ℕ) (writer new : Writer)
    → IsNext turns now after index writer new
    → (Stands part metas past index None writer → Stands part metas past index (get_or turns index None) new)
    → StandAfter part metas past (take index turns) now → index < length part.writer → HoldsAt (Stands part metas past index (get_or (take (index + 1) turns) index None)) after index
stand-here part metas past turns now after index writer new next answers stand within d =
    let before : Stands part metas past index None writer =
    subst (Stands part metas past index None) (next.old_is d)
    (subst (λ (o : Option WriterTurn). Stands part metas past index o (get_or now index d)) (past-end turns index next.below) (stand index within d)) in
    let here : get_or after index d ≡ new = ap (λ (l : List Writer). get_or l index d) next.after_is ∙ get_or-set_same now index new d next.within in
    subst (λ (o : Option WriterTurn). Stands part metas past index o (get_or after index d)) (sym (took-now turns index next.below))
    (subst (Stands part metas past index (get_or turns index None)) (sym here) (answers before))

stand-next : (part : GroupPart) (metas : List MetaData) (past : List GroupDeed) (turns : List (Option WriterTurn)) (now after : List Writer) (index : ℕ) (writer new : Writer)
    → IsNext turns now after index writer new
    → (Stands part metas past index None writer → Stands part metas past index (get_or turns index None) new)
    → StandAfter part metas past (take index turns) now → StandAfter part metas past (take (index + 1) turns) after
stand-next part metas past turns now after index writer new next answers stand other within d = by_writer (cases_eq other index)
  where
    by_writer : (other ≡ index) ⊎ (other ≡ index → ⊥) → Stands part metas past other (get_or (take (index + 1) turns) other None) (get_or after other d)
    by_writer (inl same) =
        let here : index < length part.writer = omega (arith, same, within) in
        subst (λ (w : ℕ). Stands part metas past w (get_or (take (index + 1) turns) w None) (get_or after w d)) (sym same)
        (stand-here part metas past turns now after index writer new next answers stand here d)
    by_writer (inr differs) =
        let kept : get_or after other d ≡ get_or now other d = ap (λ (l : List Writer). get_or l other d) next.after_is ∙ get_or-set_other now index other new d differs in
        subst (λ (o : Option WriterTurn). Stands part metas past other o (get_or after other d)) (sym (took-other turns index other next.below differs))
        (subst (Stands part metas past other (get_or (take index turns) other None)) (sym kept) (stand other within d))

before-none : (part : GroupPart) (metas : List MetaData) (past : List GroupDeed) (turns : List (Option WriterTurn)) (now after : List Writer) (index : ℕ) (writer new : Writer)
    → IsNext turns now after index writer new → index < length part.writer → StandAfter part metas past (take index turns) now → Stands part metas past index None writer
before-none part metas past turns now after index writer new next within stand =
    subst (Stands part metas past index None) (next.old_is new)
    (subst (λ (o : Option WriterTurn). Stands part metas past index o (get_or now index new)) (past-end turns index next.below) (stand index within new))

frames-next : (part : GroupPart) (metas : List MetaData) (past : List GroupDeed) (turns : List (Option WriterTurn)) (index : ℕ) (frames after : List Spelled) → index < length turns
    → frames ≡ frames_from part metas past 0 (take index turns)
    → after ≡ frames ++ frame_if (writer_at part index) index part.layout (meta_at part metas index) (get_or turns index None) (writer_past index past)
    → after ≡ frames_from part metas past 0 (take (index + 1) turns)
frames-next part metas past turns index frames after below so_far added =
    let turn = get_or turns index None in
    let front = frames_from part metas past 0 (take index turns) in
    let place : 0 + length (take index turns) ≡ index = omega (arith, length-take-le index turns (omega arith)) in
    added ∙ ap (λ (l : List Spelled). frames ++ l) (own-frame part metas past index turn)
    ∙ ap (λ (l : List Spelled). l ++ list_of (frame_of_writer part metas past index turn)) so_far
    ∙ ap (λ (n : ℕ). front ++ list_of (frame_of_writer part metas past n turn)) (sym place)
    ∙ sym (frames-push part metas past 0 (take index turns) turn)
    ∙ ap (frames_from part metas past 0) (sym (take_more turns index None below))

is-frame-next : (part : GroupPart) (metas : List MetaData) (past : List GroupDeed) (turns : List (Option WriterTurn)) (index writer : ℕ) → index < length turns
    → IsFrameAt part metas past index (get_or turns index None) → IsFrameAt part metas past writer (get_or (take index turns) writer None)
    → IsFrameAt part metas past writer (get_or (take (index + 1) turns) writer None)
is-frame-next part metas past turns index writer below own before = by_writer (cases_eq writer index)
  where
    by_writer : (writer ≡ index) ⊎ (writer ≡ index → ⊥) → IsFrameAt part metas past writer (get_or (take (index + 1) turns) writer None)
    by_writer (inl same) =
        subst (λ (w : ℕ). IsFrameAt part metas past w (get_or (take (index + 1) turns) w None)) (sym same)
        (subst (IsFrameAt part metas past index) (sym (took-now turns index below)) own)
    by_writer (inr differs) = subst (IsFrameAt part metas past writer) (sym (took-other turns index writer below differs)) before

pub next-so-far : (part : GroupPart) (metas : List MetaData) (past : List GroupDeed) (turns : List (Option WriterTurn)) (old now after : List Writer) (index : ℕ) (writer new : Writer) (frames spelled : List Spelled)
    → IsNext turns now after index writer new → index < length part.writer
    → HasAnswered (writer_at part index) index part.layout (meta_at part metas index) (get_or turns index None) (writer_past index past) writer new frames spelled
    → HaveSoFar part metas past turns old now index frames → HaveSoFar part metas past turns old after (index + 1) spelled
next-so-far part metas past turns old now after index writer new frames spelled next within answered so_far =
    record {
      stands = λ stand. stand-next part metas past turns now after index writer new next answered.stands (so_far.stands stand);
      frames_are = λ stand.
          frames-next part metas past turns index frames spelled next.below (so_far.frames_are stand)
          (answered.frames (before-none part metas past turns now after index writer new next within (so_far.stands stand)));
      are_frames = λ stand other.
          is-frame-next part metas past turns index other next.below
          (own-answer part metas past index (get_or turns index None) (answered.is_frame (before-none part metas past turns now after index writer new next within (so_far.stands stand))))
          (so_far.are_frames stand other);
    }

-- at the end all had them
pub all-so-far : (part : GroupPart) (told : Told) (on : List Bool) (past : List GroupDeed) (old new : List Writer) (frames : List Spelled) (index : ℕ) → length on ≤ index
    → HaveSoFar part told.metas past (turns_from part told 0 on) old new index frames → HaveAnswered part told on past old new frames
all-so-far part told on past old new frames index all so_far =
    let turns = turns_from part told 0 on in
    let whole : take index turns ≡ turns = take_all index turns (omega (arith, length-turns part told 0 on)) in
    record {
      stands = λ stand. subst (λ (t : List (Option WriterTurn)). StandAfter part told.metas past t new) whole (so_far.stands stand);
      frames_are = λ stand. so_far.frames_are stand ∙ ap (frames_from part told.metas past 0) whole;
      are_frames = λ stand writer. subst (λ (t : List (Option WriterTurn)). IsFrameAt part told.metas past writer (get_or t writer None)) whole (so_far.are_frames stand writer);
    }
