-- The parts of a turn's datagram for the reader of a writer: what was sent with its token and number, and so they stay.
use Rattle.std.proofs.Common.{◌≡◌, refl, sym, ap, ◌∙◌, subst, arith, ℕ, ◌+◌, ◌-◌, Bool, true, false, List, Option, Some, None, Result, Ok, Err}
use Rattle.std.specs.Prelude.{◌%◌, IsErr, if◌then◌else◌, option_map}
use Rattle.seq_number.specs.Numbers.{number_of_place}
use Rattle.seq_number.proofs.NumberLaws.{number-before}
use Rattle.dataset_meta.specs.Metas.{MetaData}
use Rattle.pubsub_model.specs.Frames.{Alive, Change, IsPlacedFrame, PlacedFrame, Whole, carried, is_silent, place_of, placed_cut}
use Rattle.frame_codec.specs.Carrying.{content_of}
use Rattle.frame_codec.specs.declared.fault.FrameFault.{FrameFault}
use Rattle.frame_codec.specs.Frames as frames
use Rattle.frame_codec.specs.Frames.{Content, Frame, frame_cut}
use Rattle.frame_codec.specs.Reading.{frame_at}
use Rattle.chunker.specs.Chunks.{Chunk}
use Rattle.chunker.specs.Joins.{IsCutOf}
use Rattle.chunker.specs.Spelling.{chunk_at, without_rest}
use Rattle.chunker.specs.declared.payload.ChunkFault.{ChunkFault}
use Rattle.ps_config.specs.declared.parts.GroupPart.{GroupPart}
use Rattle.ps_config.specs.declared.parts.WriterPart.{WriterPart}
use Rattle.reader_group.specs.Arrivals.{Way, frame_of, framed, goes_by_numbers, is_foreign, placed, unnumbered}
use Rattle.reader_group.specs.Payloads.{Piece, Message, Chunked, Slotted, Missing}
use Rattle.reader_group.specs.SlotFrames.{slot_frame_at}
use Rattle.writer_group.specs.Payloads.{carried_frame, meta_at, spelled_by, writer_at}
use Rattle.writer_group.specs.Turns.{GroupDeed, TurnInput, answer_by}
use Rattle.group_laws.specs.TurnReading.{IsPartBy, IsPartIf, IsPartOf, frame_read}
use Rattle.session_laws.specs.Readers.{ChunkIsCutFor, GivesPlace, IsCutFor, IsPartFor, IsSentAt, Making, ReadGives}
use Rattle.session_laws.proofs.HeldRows.Pieces.{own-major}

-- ---- the place of a frame that is read

some-same : (x y : PlacedFrame) → Path (Option PlacedFrame) (Some x) (Some y) → x ≡ y
some-same x y e = cc

-- by numbers a frame of the data set gives one of the place that its number stands for
by-number : (way : Way) (place : ℕ → ℕ) (frame : Frame) (number : ℕ) (content : Content) → goes_by_numbers way ≡ true → is_foreign way.seat.meta frame ≡ false → frame.number ≡ Some number → frame.content ≡ content
    → frame_of way place frame ≡ Some (framed place content number)
by-number way place frame number content by own number_is content_is =
    ap (λ (f : Bool). if f then None else if goes_by_numbers way then option_map (framed place frame.content) frame.number else unnumbered frame.content) own
    ∙ ap (λ (n : Bool). if n then option_map (framed place frame.content) frame.number else unnumbered frame.content) by
    ∙ ap (λ (o : Option ℕ). option_map (framed place frame.content) o) number_is
    ∙ ap (λ (c : Content). Some (framed place c number)) content_is

back-one : (n : ℕ) → n + 1 - 1 ≡ n
back-one n = omega arith

-- the place of an answer, where its 16 bits stand for it
given-place : (way : Way) (place : ℕ → ℕ) (writer : WriterPart) (now : MetaData) (answered given : PlacedFrame) → goes_by_numbers way ≡ true → way.seat.meta.major ≡ now.major → IsPlacedFrame answered
    → place (number_of_place (place_of answered)) ≡ place_of answered → frame_of way place (frame_cut way.seat.meta (carried_frame writer now answered)) ≡ Some given → place_of given ≡ place_of answered
given-place way place writer now (Whole at row) given by major good named e =
    let frame = frame_cut way.seat.meta (carried_frame writer now (Whole at row)) in
    let content = content_of (placed_cut way.seat.meta (Whole at row)) in
    let is = by-number way place frame (number_of_place at) content by (own-major writer.versions way.seat.meta.major now.major major) refl refl in
    ap place_of (some-same given (framed place content (number_of_place at)) (sym e ∙ is)) ∙ named
given-place way place writer now (Change at patch) given by major good named e =
    let frame = frame_cut way.seat.meta (carried_frame writer now (Change at patch)) in
    let content = content_of (placed_cut way.seat.meta (Change at patch)) in
    let is = by-number way place frame (number_of_place at) content by (own-major writer.versions way.seat.meta.major now.major major) refl refl in
    ap place_of (some-same given (framed place content (number_of_place at)) (sym e ∙ is)) ∙ named
given-place way place writer now (Alive next) given by major good named e =
    let frame = frame_cut way.seat.meta (carried_frame writer now (Alive next)) in
    let content = content_of (placed_cut way.seat.meta (Alive next)) in
    let is = by-number way place frame (number_of_place next) content by (own-major writer.versions way.seat.meta.major now.major major) refl refl in
    let silent : (number_of_place next + 65535) % 65536 ≡ number_of_place (next - 1) = number-before next good in
    ap place_of (some-same given (framed place content (number_of_place next)) (sym e ∙ is)) ∙ ap (λ (n : ℕ). place n + 1 - 1) silent ∙ back-one (place (number_of_place (next - 1))) ∙ named

loud-number : (answered : PlacedFrame) → is_silent answered ≡ false → carried answered ≡ number_of_place (place_of answered)
loud-number (Whole at row) loud = refl
loud-number (Change at patch) loud = refl
loud-number (Alive next) loud = absurd (cc)

loud-of : (writer : WriterPart) (meta now : MetaData) (answered : PlacedFrame) → ¬ ((frame_cut meta (carried_frame writer now answered)).content ≡ frames.Alive) → is_silent answered ≡ false
loud-of writer meta now (Whole at row) not_alive = refl
loud-of writer meta now (Change at patch) not_alive = refl
loud-of writer meta now (Alive next) not_alive = absurd (not_alive refl)

-- ---- a part of a turn's datagram with this token and number

-- What the writer answered was sent with them, and is a frame whose 16 bits stand for its place; the bytes of a data frame's place are its message.
pub record IsSentNow (m : Making) (group : GroupPart) (w : ℕ) (past : List GroupDeed) (input : TurnInput) (way : Way) (token number : ℕ) : Type 0 where
  pub by : goes_by_numbers way ≡ true
  pub major : way.seat.meta.major ≡ (meta_at group input.told.metas w).major
  pub named : (own : ℕ) → IsSentAt m token number own → way.place token number (number_of_place own) ≡ own
  pub sent : (answered : PlacedFrame) → answer_by group past input w ≡ Some answered → IsSentAt m token number (place_of answered)
  pub good : (answered : PlacedFrame) → answer_by group past input w ≡ Some answered → IsPlacedFrame answered
  pub bytes : (answered : PlacedFrame) → answer_by group past input w ≡ Some answered → is_silent answered ≡ false → m.bytes (place_of answered) ≡ (spelled_by group input.told.metas w answered).bytes

err-gives : (way : Way) (token number : ℕ) (read : Result Frame FrameFault) (P : ℕ → Type 0) → IsErr read → ReadGives way token number read P
err-gives way token number (Ok frame) P e = absurd (cc)
err-gives way token number (Err fault) P e = tt

module _ (m : Making) (group : GroupPart) (w : ℕ) (past : List GroupDeed) (input : TurnInput) (way : Way) (token number : ℕ) (is : IsSentNow m group w past input way token number) where
  gives-own : (answered : PlacedFrame) → answer_by group past input w ≡ Some answered → GivesPlace way token number (frame_read group input w way.seat answered) (λ own. own ≡ place_of answered)
  gives-own answered e = λ given read.
      given-place way (way.place token number) (writer_at group w) (meta_at group input.told.metas w) answered given is.by is.major (is.good answered e) (is.named (place_of answered) (is.sent answered e)) read

  read-sent : (answered : PlacedFrame) (read : Result Frame FrameFault) → answer_by group past input w ≡ Some answered → read ≡ Ok (frame_read group input w way.seat answered) → ReadGives way token number read (IsSentAt m token number)
  read-sent answered read e of =
      subst (λ (r : Result Frame FrameFault). ReadGives way token number r (IsSentAt m token number)) (sym of)
      (λ given at. subst (IsSentAt m token number) (sym (gives-own answered e given at)) (is.sent answered e))

  cut-sent : (answered : PlacedFrame) (chunk : Chunk) → answer_by group past input w ≡ Some answered → is_silent answered ≡ false → chunk.place ≡ carried answered → IsCutOf (spelled_by group input.told.metas w answered).bytes chunk
      → frame_at way.seat.meta (spelled_by group input.told.metas w answered).bytes ≡ Ok (frame_read group input w way.seat answered) → IsCutFor m way token number chunk
  cut-sent answered chunk e loud number_is cut read =
      let spelled = (spelled_by group input.told.metas w answered).bytes in
      let own = way.place token number chunk.place in
      let at : own ≡ place_of answered = ap (way.place token number) (number_is ∙ loud-number answered loud) ∙ is.named (place_of answered) (is.sent answered e) in
      let there : m.bytes own ≡ spelled = ap m.bytes at ∙ is.bytes answered e loud in
      let of : IsCutOf (m.bytes own) chunk = subst (λ (b : List ℕ). IsCutOf b chunk) (sym there) cut in
      let as_read : frame_at way.seat.meta (m.bytes own) ≡ Ok (frame_read group input w way.seat answered) = ap (frame_at way.seat.meta) there ∙ read in
      record {
        sent = subst (IsSentAt m token number) (sym at) (is.sent answered e);
        cut = record { total = of.total; bytes = of.bytes };
        read = subst (λ (r : Result Frame FrameFault). ReadGives way token number r (λ place. place ≡ own)) (sym as_read) (λ given read_so. gives-own answered e given read_so ∙ sym at);
      }

  part-some : (answered : PlacedFrame) (piece : Piece) → answer_by group past input w ≡ Some answered → IsPartOf way.seat (spelled_by group input.told.metas w answered) (frame_read group input w way.seat answered) piece
      → IsPartFor m way token number piece
  part-some answered (Message bytes) e of = read-sent answered (frame_at way.seat.meta bytes) e of
  part-some answered (Chunked bytes) e of =
      let loud = loud-of (writer_at group w) way.seat.meta (meta_at group input.told.metas w) answered of.2 in
      let chunk = of.1 in
      subst (ChunkIsCutFor m way token number) (sym chunk.chunk_read) (cut-sent answered chunk.chunk e loud chunk.number_is chunk.cut of.0)
  part-some answered (Slotted bytes) e of = read-sent answered (slot_frame_at way.seat.meta bytes) e of
  part-some answered Missing e of = absurd of

  part-if : (answer : Option PlacedFrame) (piece : Piece) → answer_by group past input w ≡ answer
      → IsPartIf way.seat (spelled_by group input.told.metas w) (frame_read group input w way.seat) answer piece → IsPartFor m way token number piece
  part-if None (Message bytes) e of = absurd of
  part-if None (Chunked bytes) e of = absurd of
  part-if None (Slotted bytes) e of = err-gives way token number (slot_frame_at way.seat.meta bytes) (IsSentAt m token number) of
  part-if None Missing e of = absurd of
  part-if (Some answered) piece e of = part-some answered piece e of

  pub part-sent : (piece : Piece) → IsPartBy group past input w way.seat piece → IsPartFor m way token number piece
  part-sent piece of = part-if (answer_by group past input w) piece refl of

-- ---- what more is sent leaves it

read-stays : (way : Way) (token number : ℕ) (read : Result Frame FrameFault) (P Q : ℕ → Type 0) → ((own : ℕ) → P own → Q own) → ReadGives way token number read P → ReadGives way token number read Q
read-stays way token number (Ok frame) P Q more h = λ given e. more (place_of given) (h given e)
read-stays way token number (Err fault) P Q more h = tt

chunk-stays : (m more : Making) (way : Way) (token number : ℕ) (read : Result Chunk ChunkFault) → ((own : ℕ) → IsSentAt m token number own → IsSentAt more token number own)
    → ((own : ℕ) → IsSentAt m token number own → more.bytes own ≡ m.bytes own) → ChunkIsCutFor m way token number read → ChunkIsCutFor more way token number read
chunk-stays m more way token number (Err fault) sent bytes h = tt
chunk-stays m more way token number (Ok chunk) sent bytes h =
    let own = way.place token number chunk.place in
    let same : more.bytes own ≡ m.bytes own = bytes own h.sent in
    record {
      sent = sent own h.sent;
      cut = subst (λ (b : List ℕ). IsCutOf b (placed (way.place token number) chunk)) (sym same) h.cut;
      read = subst (λ (b : List ℕ). ReadGives way token number (frame_at way.seat.meta b) (λ place. place ≡ own)) (sym same) h.read;
    }

pub part-stays : (m more : Making) (way : Way) (token number : ℕ) → ((own : ℕ) → IsSentAt m token number own → IsSentAt more token number own) → ((own : ℕ) → IsSentAt m token number own → more.bytes own ≡ m.bytes own)
    → (piece : Piece) → IsPartFor m way token number piece → IsPartFor more way token number piece
part-stays m more way token number sent bytes (Message of) h = read-stays way token number (frame_at way.seat.meta of) (IsSentAt m token number) (IsSentAt more token number) sent h
part-stays m more way token number sent bytes (Chunked of) h = chunk-stays m more way token number (without_rest (chunk_at of)) sent bytes h
part-stays m more way token number sent bytes (Slotted of) h = read-stays way token number (slot_frame_at way.seat.meta of) (IsSentAt m token number) (IsSentAt more token number) sent h
part-stays m more way token number sent bytes Missing h = tt
