-- The turn of one writer: its frame, if it has one, is that of its cadence.
use Rattle.std.proofs.Common.{◌≡◌, ℕ, ◌≤◌, List, [], ◌∷◌, ◌++◌, length, refl, sym, ap, subst, ◌∙◌, append-nil, arith, Option, Some, None}
use Rattle.std.specs.Prelude.{option_map}
use Rattle.std.proofs.lemmas.Bool.{false≢true}
use Rattle.std.proofs.lemmas.List.Elements.{All-cons, All-nil}
use Rattle.dataset_meta.specs.Metas.{IsMeta, MetaData}
use Rattle.frame_codec.specs.declared.frame.Frame.{Frame as FrameWords}
use Rattle.frame_codec.specs.Frames.{Frame, IsFrame}
use Rattle.frame_codec.specs.Words.{IsFrameOf, frame_in}
use Rattle.frame_codec.proofs.Lengths.{frame_some}
use Rattle.pubsub_model.specs.Frames.{PlacedFrame}
use Rattle.pubsub_model.specs.Cadence.{WriterDeed, WriterTurn, HadTurn, cadence}
use Rattle.dataset_writer.specs.declared.writer.Writer.{Writer}
use Rattle.dataset_writer.specs.Standing.{Answers, IsWriter}
use Rattle.dataset_writer.specs.Turns.{latest_answer, model_settings}
use Rattle.config_tables.specs.declared.words.Layout.{Layout}
use Rattle.config_tables.specs.declared.words.Layout.TheVariants as layout
use Rattle.ps_config.specs.declared.parts.WriterPart.{WriterPart}
use Rattle.writer_group.specs.Answering.{AddsFrame, HasAnswered, HasLived, IsFrameBy, HasNarrowNumbers, answer_if}
use Rattle.writer_group.specs.Holding.{spelled_words}
use Rattle.writer_group.specs.Payloads.{IsFrameIf, Spelled, carried_frame, laid_frame}
use Rattle.writer_group.specs.Turns.{settings_of}
use Rattle.writer_group.proofs.AnsweringLaws.{no-frame, sent-frame, spelled-answer}
use Rattle.writer_group.proofs.LargestFrame.{frame-largest}
use Rattle.writer_group.proofs.RawFrames.{raw-most, raw-some}
use Rattle.frame_codec.proofs.WordLaws.{words-fit}

-- ---- what it has answered

pub off-answered : (part : WriterPart) (index : ℕ) (l : Layout) (meta : MetaData) (took : Option WriterTurn) (deeds : List WriterDeed) (writer : Writer) (frames : List Spelled) → took ≡ None
    → HasAnswered part index l meta took deeds writer writer frames frames
off-answered part index l meta took deeds writer frames none =
    subst (λ (o : Option WriterTurn). HasAnswered part index l meta o deeds writer writer frames frames) (sym none)
    (record { stands = λ is. is; frames = λ is. sym (append-nil frames); is_frame = λ is. tt })

abbrev AnswersAll : WriterPart → MetaData → WriterTurn → Writer → Writer → Option FrameWords → Type 0
AnswersAll part meta turn old new sent = (deeds : List WriterDeed) → IsWriter meta (settings_of part) deeds old → Answers meta (settings_of part) deeds turn new sent

none-is-frame : (part : WriterPart) (meta : MetaData) (answer : Option PlacedFrame) → Path (Option Frame) None (option_map (carried_frame part meta) answer) → IsFrameIf part meta answer
none-is-frame part meta None same = tt
none-is-frame part meta (Some placed) same = absurd (let no : Path (Option Frame) None (Some (carried_frame part meta placed)) = same in cc)

-- the frame in words is one of the meta, and so is what it carries
sent-is-frame : (part : WriterPart) (meta : MetaData) (frame : FrameWords) (answer : Option PlacedFrame) → IsFrameOf meta frame → HasNarrowNumbers frame
    → Path (Option Frame) (Some (frame_in meta.fields frame)) (option_map (carried_frame part meta) answer) → IsFrameIf part meta answer
sent-is-frame part meta frame None is narrow same = tt
sent-is-frame part meta frame (Some placed) is narrow same =
    let inner : frame_in meta.fields frame ≡ carried_frame part meta placed = cc in
    subst (IsFrame meta) inner (words-fit meta frame is narrow.number narrow.major narrow.minor)

pub quiet-answered : (part : WriterPart) (index : ℕ) (l : Layout) (meta : MetaData) (took : Option WriterTurn) (turn : WriterTurn) (deeds : List WriterDeed) (old new : Writer) (frames : List Spelled) → took ≡ Some turn
    → AnswersAll part meta turn old new None → HasAnswered part index l meta took deeds old new frames frames
quiet-answered part index l meta took turn deeds old new frames some answers =
    subst (λ (o : Option WriterTurn). HasAnswered part index l meta o deeds old new frames frames) (sym some)
    (record {
      stands = λ is. (answers deeds is).stands;
      frames = λ is. sym (append-nil frames) ∙ ap (λ (l : List Spelled). frames ++ l) (sym (no-frame part index l meta turn deeds (answers deeds is).sends));
      is_frame = λ is. none-is-frame part meta (answer_if part (Some turn) deeds) (answers deeds is).sends;
    })

pub sent-answered : (part : WriterPart) (index : ℕ) (l : Layout) (meta : MetaData) (took : Option WriterTurn) (turn : WriterTurn) (deeds : List WriterDeed) (old new : Writer) (frame : FrameWords) (before after : List Spelled)
    → took ≡ Some turn → IsFrameOf meta frame → HasNarrowNumbers frame → AnswersAll part meta turn old new (Some frame) → after ≡ before ++ spelled_words l index part meta frame ∷ []
    → HasAnswered part index l meta took deeds old new before after
sent-answered part index l meta took turn deeds old new frame before after some is_frame narrow answers added =
    subst (λ (o : Option WriterTurn). HasAnswered part index l meta o deeds old new before after) (sym some)
    (record {
      stands = λ is. (answers deeds is).stands;
      frames = λ is. added ∙ ap (λ (l : List Spelled). before ++ l) (sent-frame part index l meta frame turn deeds (answers deeds is).sends);
      is_frame = λ is. sent-is-frame part meta frame (answer_if part (Some turn) deeds) is_frame narrow (answers deeds is).sends;
    })

-- ---- what it adds

pub adds-none : (part : WriterPart) (index : ℕ) (l : Layout) (meta : MetaData) (frames : List Spelled) → AddsFrame part index l meta frames frames
adds-none part index l meta frames = record { added = []; few = omega arith; each = All-nil (IsFrameBy part index l meta); after_is = sym (append-nil frames) }

record IsPlaced (part : WriterPart) (meta : MetaData) (frame : Frame) : Type 0 where
  pub placed : PlacedFrame
  pub is : frame ≡ carried_frame part meta placed

placed-of : (part : WriterPart) (meta : MetaData) (frame : Frame) (answer : Option PlacedFrame) → Path (Option Frame) (Some frame) (option_map (carried_frame part meta) answer) → IsPlaced part meta frame
placed-of part meta frame None same = absurd (let no : Path (Option Frame) (Some frame) None = same in cc)
placed-of part meta frame (Some placed) same = record { placed = placed; is = let inner : Path (Option Frame) (Some frame) (Some (carried_frame part meta placed)) = same in cc }

frame-by : (part : WriterPart) (index : ℕ) (l : Layout) (meta : MetaData) (frame : FrameWords) → IsMeta meta.fields → IsFrameOf meta frame → HasNarrowNumbers frame → IsPlaced part meta (frame_in meta.fields frame)
    → length (laid_frame l meta (frame_in meta.fields frame)) ≤ 2048 → IsFrameBy part index l meta (spelled_words l index part meta frame)
frame-by part index layout.Dynamic meta frame is_meta is narrow placed short =
    record {
      own = refl;
      placed = placed.placed;
      spelled = spelled-answer part index layout.Dynamic meta frame placed.placed placed.is;
      is_frame = subst (IsFrame meta) placed.is (words-fit meta frame is narrow.number narrow.major narrow.minor);
      some = frame_some meta.quality (frame_in meta.fields frame);
      short = short;
      dynamic = λ e. frame-largest meta frame is;
      fixed = λ e. absurd (false≢true e);
    }
frame-by part index layout.Fixed meta frame is_meta is narrow placed short =
    record {
      own = refl;
      placed = placed.placed;
      spelled = spelled-answer part index layout.Fixed meta frame placed.placed placed.is;
      is_frame = subst (IsFrame meta) placed.is (words-fit meta frame is narrow.number narrow.major narrow.minor);
      some = raw-some meta.fields (frame_in meta.fields frame);
      short = short;
      dynamic = λ e. absurd (false≢true (sym e));
      fixed = λ e. raw-most part.versions meta frame placed.placed is_meta is placed.is;
    }

pub adds-one : (part : WriterPart) (index : ℕ) (l : Layout) (meta : MetaData) (turn : WriterTurn) (old new : Writer) (frame : FrameWords) (before after : List Spelled) → IsMeta meta.fields → IsFrameOf meta frame
    → HasNarrowNumbers frame → HasLived meta (settings_of part) old → AnswersAll part meta turn old new (Some frame) → length (laid_frame l meta (frame_in meta.fields frame)) ≤ 2048
    → after ≡ before ++ spelled_words l index part meta frame ∷ [] → AddsFrame part index l meta before after
adds-one part index l meta turn old new frame before after is_meta is narrow lived answers short added =
    let placed = placed-of part meta (frame_in meta.fields frame) (latest_answer (cadence (model_settings (settings_of part)) (HadTurn turn ∷ lived.deeds))) (answers lived.deeds lived.stands).sends in
    let one = spelled_words l index part meta frame in
    record {
      added = one ∷ [];
      few = omega arith;
      each = All-cons (IsFrameBy part index l meta) one [] (frame-by part index l meta frame is_meta is narrow placed short) (All-nil (IsFrameBy part index l meta));
      after_is = added;
    }

pub lives-on : (part : WriterPart) (meta : MetaData) (turn : WriterTurn) (old new : Writer) (sent : Option FrameWords) → HasLived meta (settings_of part) old → AnswersAll part meta turn old new sent → HasLived meta (settings_of part) new
lives-on part meta turn old new sent lived answers = record { deeds = HadTurn turn ∷ lived.deeds; stands = (answers lived.deeds lived.stands).stands }
