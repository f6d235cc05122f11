-- What a part of a writer's answer adds to the list of a reader.
use Rattle.std.proofs.Common.{◌≡◌, refl, sym, ap, ◌∙◌, subst, ℕ, Bool, true, false, not, ◌&&◌, List, ◌∷◌, All, Option, Some, None, Result, Ok, Err}
use Rattle.std.specs.Prelude.{◌==◌, option_map, if◌then◌else◌, IsErr}
use Rattle.std.specs.Option.{option_map_or}
use Rattle.std.proofs.lemmas.Bool.{eq-eqb}
use Rattle.std.proofs.lemmas.List.Elements.{All-cons, All-contains}
use Rattle.dataset_meta.specs.Metas.{MetaData}
use Rattle.pubsub_model.specs.Answers.{without_place}
use Rattle.pubsub_model.specs.Frames.{PlacedFrame, Whole, Change, Alive, carried, placed_cut}
use Rattle.frame_codec.specs.declared.fault.FrameFault.{FrameFault}
use Rattle.frame_codec.specs.Carrying.{version_if}
use Rattle.frame_codec.specs.Frames.{Frame, frame_cut}
use Rattle.frame_codec.specs.Reading.{frame_at}
use Rattle.chunker.specs.Chunks.{Chunk, cover, is_proper, is_whole_at, message_of}
use Rattle.chunker.specs.Joins.{IsCutOf}
use Rattle.chunker.specs.declared.payload.ChunkFault.{ChunkFault}
use Rattle.chunker.proofs.CutLaws.{message-back}
use Rattle.ps_config.specs.declared.parts.GroupPart.{GroupPart}
use Rattle.ps_config.specs.declared.parts.WriterPart.{WriterPart}
use Rattle.writer_group.specs.Payloads.{carried_frame, meta_at, spelled_by, writer_at}
use Rattle.writer_group.specs.Turns.{GroupDeed, TurnInput, answer_by}
use Rattle.reader_group.specs.Arrivals.{Mark, Laid, Way, chunk_on, chunks_in, comes, frame_of, framed, goes_by_numbers, item_of, item_on, laid_on, piece_on, placed as placed_chunk, read_on, unnumbered}
use Rattle.reader_group.specs.SlotFrames.{slot_frame_at}
use Rattle.reader_group.specs.Payloads.{Piece, Message, Chunked, Slotted, Missing}
use Rattle.group_laws.specs.TurnItems.{ComesInPart, ComesWhole, IsOfMessageAt, IsPlacedBy, IsUncut, JoinsItsMessage, chunk_adds, item_frame, message_by, part_adds, read_adds}
use Rattle.group_laws.specs.TurnReading.{IsEmptyPart, IsPartBy, IsPartIf, IsPartOf, frame_read}

own-major : (versions : Bool) (meta major : ℕ) → meta ≡ major → option_map_or (λ (m : ℕ). not (m == meta)) (version_if versions major) false ≡ false
own-major true meta major same = ap not (eq-eqb major meta (sym same))
own-major false meta major same = refl

content-framed : (meta now : MetaData) (writer : WriterPart) (place : ℕ → ℕ) (placed : PlacedFrame) → IsPlacedBy place placed
    → option_map (framed place (frame_cut meta (carried_frame writer now placed)).content) (frame_cut meta (carried_frame writer now placed)).number ≡ Some (placed_cut meta placed)
content-framed meta now writer place (Whole own row) by = ap (λ (n : ℕ). Some (Whole n (Rattle.dataset_meta.specs.Rows.row_cut meta row))) by
content-framed meta now writer place (Change own patch) by = ap (λ (n : ℕ). Some (Change n (Rattle.dataset_meta.specs.Rows.patch_cut meta patch))) by
content-framed meta now writer place (Alive next) by = ap (λ (n : ℕ). Some (Alive n)) by

frame-is-item : (way : Way) (now : MetaData) (writer : WriterPart) (place : ℕ → ℕ) (placed : PlacedFrame) → goes_by_numbers way ≡ true → way.seat.meta.major ≡ now.major → IsPlacedBy place placed
    → frame_of way place (frame_cut way.seat.meta (carried_frame writer now placed)) ≡ Some (placed_cut way.seat.meta placed)
frame-is-item way now writer place placed numbered major by =
    let frame = frame_cut way.seat.meta (carried_frame writer now placed) in
    ap (λ (b : Bool). if b then None else if goes_by_numbers way then option_map (framed place frame.content) frame.number else unnumbered frame.content) (own-major writer.versions way.seat.meta.major now.major major)
    ∙ ap (λ (b : Bool). if b then option_map (framed place frame.content) frame.number else unnumbered frame.content) numbered
    ∙ content-framed way.seat.meta now writer place placed by

pub whole-item : (group : GroupPart) (past : List GroupDeed) (input : TurnInput) (writer : ℕ) (way : Way) (place : ℕ → ℕ) (placed : PlacedFrame) (piece : Piece) (moment : ℕ) (stamp : Option ℕ) (before : List Mark)
    → ComesWhole group past input writer way place placed piece → piece_on way place moment stamp before piece ≡ comes way before (item_of moment stamp (placed_cut way.seat.meta placed))
whole-item group past input writer way place placed piece moment stamp before is = on piece part is.uncut
  where
    frame : Frame
    frame = frame_read group input writer way.seat placed

    part : IsPartOf way.seat (spelled_by group input.told.metas writer placed) (frame_read group input writer way.seat placed) piece
    part = subst (λ (o : Option PlacedFrame). IsPartIf way.seat (spelled_by group input.told.metas writer) (frame_read group input writer way.seat) o piece) is.answer is.part

    given : (read : Result Frame FrameFault) → read ≡ Ok (frame_read group input writer way.seat placed) → read_on way place moment stamp before read ≡ comes way before (item_of moment stamp (placed_cut way.seat.meta placed))
    given read e =
        ap (read_on way place moment stamp before) e
        ∙ ap (item_on way moment stamp before) (frame-is-item way (meta_at group input.told.metas writer) (writer_at group writer) place placed is.numbered is.major is.placed_by)

    on : (piece : Piece) → IsPartOf way.seat (spelled_by group input.told.metas writer placed) (frame_read group input writer way.seat placed) piece → IsUncut piece
        → piece_on way place moment stamp before piece ≡ comes way before (item_of moment stamp (placed_cut way.seat.meta placed))
    on (Message bytes) of uncut = given _ of
    on (Chunked bytes) of uncut = absurd uncut
    on (Slotted bytes) of uncut = given _ of
    on Missing of uncut = absurd uncut

-- ---- any part, and either numbering

unnumbered-is : (meta now : MetaData) (writer : WriterPart) (answer : PlacedFrame) → unnumbered (frame_cut meta (carried_frame writer now answer)).content ≡ without_place (placed_cut meta answer)
unnumbered-is meta now writer (Whole own row) = refl
unnumbered-is meta now writer (Change own patch) = refl
unnumbered-is meta now writer (Alive next) = refl

by-numbering : (b : Bool) (way : Way) (now : MetaData) (writer : WriterPart) (place : ℕ → ℕ) (answer : PlacedFrame) → goes_by_numbers way ≡ b → way.seat.meta.major ≡ now.major → (b ≡ true → IsPlacedBy place answer)
    → frame_of way place (frame_cut way.seat.meta (carried_frame writer now answer)) ≡ (if b then Some (placed_cut way.seat.meta answer) else without_place (placed_cut way.seat.meta answer))
by-numbering true way now writer place answer numbered major by = frame-is-item way now writer place answer numbered major (by refl)
by-numbering false way now writer place answer numbered major by =
    let frame = frame_cut way.seat.meta (carried_frame writer now answer) in
    ap (λ (b : Bool). if b then None else if goes_by_numbers way then option_map (framed place frame.content) frame.number else unnumbered frame.content) (own-major writer.versions way.seat.meta.major now.major major)
    ∙ ap (λ (b : Bool). if b then option_map (framed place frame.content) frame.number else unnumbered frame.content) numbered
    ∙ unnumbered-is way.seat.meta now writer answer

if-same : {X : Type 0} (p w : Bool) (a b b' c : X) → (w ≡ true → b ≡ b') → (if not p then a else if w then b else c) ≡ (if not p then a else if w then b' else c)
if-same true true a b b' c same = same refl
if-same true false a b b' c same = refl
if-same false w a b b' c same = refl

whole-cover : (a b c : Bool) → (a && b && not c) ≡ true → b ≡ true
whole-cover true true c e = refl
whole-cover true false c e = absurd (cc)
whole-cover false b c e = absurd (cc)

-- the chunks that make the message whole give it back
joined-back : (message : List ℕ) (chunk : Chunk) (chunks : List Chunk) → IsCutOf message chunk → All (IsOfMessageAt message chunk.place) chunks → is_whole_at chunks chunk ≡ true
    → message_of (chunk ∷ chunks) chunk.place chunk.total ≡ message
joined-back message chunk chunks cut are whole =
    let covered : cover (chunk ∷ chunks) chunk.place chunk.total ≡ true = whole-cover _ (cover (chunk ∷ chunks) chunk.place chunk.total) (cover chunks chunk.place chunk.total) whole in
    let every = All-cons (IsOfMessageAt message chunk.place) chunk chunks (λ same. cut) are in
    ap (message_of (chunk ∷ chunks) chunk.place) cut.total
    ∙ message-back message chunk.place (chunk ∷ chunks) (λ other has at. All-contains (IsOfMessageAt message chunk.place) (chunk ∷ chunks) other every has at)
    (subst (λ (n : ℕ). cover (chunk ∷ chunks) chunk.place n ≡ true) cut.total covered)

module _ (group : GroupPart) (past : List GroupDeed) (input : TurnInput) (writer : ℕ) (way : Way) (place : ℕ → ℕ) (answer : PlacedFrame) (moment : ℕ) (stamp : Option ℕ) (before : List Mark)
    (major : way.seat.meta.major ≡ (meta_at group input.told.metas writer).major) (by : goes_by_numbers way ≡ true → IsPlacedBy place answer) where
  abbrev item : Option PlacedFrame
  item = item_frame way answer

  given-on : (list : List Mark) (read : Result Frame FrameFault) → read ≡ Ok (frame_read group input writer way.seat answer) → read_on way place moment stamp list read ≡ item_on way moment stamp list item
  given-on list read e =
      ap (read_on way place moment stamp list) e
      ∙ ap (item_on way moment stamp list) (by-numbering (goes_by_numbers way) way (meta_at group input.told.metas writer) (writer_at group writer) place answer refl major by)

  laid-adds : (chunk : Chunk) → IsCutOf (message_by group input writer answer) chunk → chunk.place ≡ carried answer
      → frame_at way.seat.meta (message_by group input writer answer) ≡ Ok (frame_read group input writer way.seat answer)
      → All (IsOfMessageAt (message_by group input writer answer) (place (carried answer))) (chunks_in before)
      → laid_on way place moment stamp before (placed_chunk place chunk) ≡ chunk_adds way moment stamp before item (placed_chunk place chunk)
  laid-adds chunk cut number read are =
      let message = message_by group input writer answer in
      let laid = placed_chunk place chunk in
      let chunks = chunks_in before in
      let its_cut : IsCutOf message laid = record { total = cut.total; bytes = cut.bytes } in
      let all : All (IsOfMessageAt message laid.place) chunks = subst (λ (n : ℕ). All (IsOfMessageAt message (place n)) chunks) (sym number) are in
      if-same (is_proper chunks laid) (is_whole_at chunks laid) before
      (read_on way place moment stamp (Laid laid ∷ before) (frame_at way.seat.meta (message_of (laid ∷ chunks) laid.place laid.total)))
      (item_on way moment stamp (Laid laid ∷ before) item) (Laid laid ∷ before)
      (λ whole. given-on (Laid laid ∷ before) (frame_at way.seat.meta (message_of (laid ∷ chunks) laid.place laid.total))
      (ap (frame_at way.seat.meta) (joined-back message laid chunks its_cut all whole) ∙ read))

  part-on : (piece : Piece) → IsPartOf way.seat (spelled_by group input.told.metas writer answer) (frame_read group input writer way.seat answer) piece
      → JoinsItsMessage (message_by group input writer answer) (place (carried answer)) before piece
      → piece_on way place moment stamp before piece ≡ part_adds way place moment stamp before item piece
  part-on (Message bytes) of joins = given-on before _ of
  part-on (Chunked bytes) of joins =
      let is = of.1 in
      subst (λ (read : Result Chunk ChunkFault). chunk_on way place moment stamp before read ≡ read_adds way place moment stamp before item read) (sym is.chunk_read)
      (laid-adds is.chunk is.cut is.number_is of.0 joins)
  part-on (Slotted bytes) of joins = given-on before _ of
  part-on Missing of joins = absurd of

pub part-adds : (group : GroupPart) (past : List GroupDeed) (input : TurnInput) (writer : ℕ) (way : Way) (place : ℕ → ℕ) (answer : PlacedFrame) (piece : Piece) (moment : ℕ) (stamp : Option ℕ) (before : List Mark)
    → ComesInPart group past input writer way place answer before piece
    → piece_on way place moment stamp before piece ≡ part_adds way place moment stamp before (item_frame way answer) piece
part-adds group past input writer way place answer piece moment stamp before is =
    part-on group past input writer way place answer moment stamp before is.major is.placed_by piece
    (subst (λ (o : Option PlacedFrame). IsPartIf way.seat (spelled_by group input.told.metas writer) (frame_read group input writer way.seat) o piece) is.answer_is is.part) is.joins

-- ---- no answer

err-adds : (way : Way) (place : ℕ → ℕ) (moment : ℕ) (stamp : Option ℕ) (before : List Mark) (read : Result Frame FrameFault) → IsErr read → read_on way place moment stamp before read ≡ before
err-adds way place moment stamp before (Ok frame) e = absurd (cc)
err-adds way place moment stamp before (Err fault) e = refl

pub nothing-adds : (group : GroupPart) (past : List GroupDeed) (input : TurnInput) (writer : ℕ) (way : Way) (place : ℕ → ℕ) (piece : Piece) (moment : ℕ) (stamp : Option ℕ) (before : List Mark)
    → answer_by group past input writer ≡ None → IsPartBy group past input writer way.seat piece → piece_on way place moment stamp before piece ≡ before
nothing-adds group past input writer way place piece moment stamp before none part =
    on piece (subst (λ (o : Option PlacedFrame). IsPartIf way.seat (spelled_by group input.told.metas writer) (frame_read group input writer way.seat) o piece) none part)
  where
    on : (piece : Piece) → IsEmptyPart way.seat piece → piece_on way place moment stamp before piece ≡ before
    on (Message bytes) of = absurd of
    on (Chunked bytes) of = absurd of
    on (Slotted bytes) of = err-adds way place moment stamp before (slot_frame_at way.seat.meta bytes) of
    on Missing of = absurd of
