-- What a datagram has for the reader of a writer, with its content: frames that the writer answered, and chunks of them, each sent under the datagram's token
-- with its number.
use Rattle.std.proofs.Common.{◌≡◌, refl, sym, ap, ◌∙◌, subst, arith, ℕ, ◌+◌, ◌-◌, Bool, true, false, List, ◌∷◌, Option, Some, None, Result, Ok, Err, All, Contains}
use Rattle.std.specs.Prelude.{⊤, ◌%◌, IsErr, if◌then◌else◌, option_map}
use Rattle.std.proofs.lemmas.List.Elements.{All-weaker}
use Rattle.seq_number.specs.Numbers.{number_of_place}
use Rattle.seq_number.proofs.NumberLaws.{number-before}
use Rattle.dataset_meta.specs.Metas.{MetaData}
use Rattle.dataset_meta.specs.Rows.{patch_cut, row_cut}
use Rattle.pubsub_model.specs.declared.reading.Why.TheVariants.{Jump}
use Rattle.pubsub_model.specs.Answers.{IsAnswer, without_place}
use Rattle.pubsub_model.specs.Cadence.{Answered}
use Rattle.pubsub_model.specs.Frames.{Alive, Change, IsPlacedFrame, PlacedFrame, Whole, carried, is_silent, place_of, placed_cut}
use Rattle.pubsub_model.specs.Records.{Came, Cut, Item}
use Rattle.frame_codec.specs.Carrying.{content_of}
use Rattle.frame_codec.specs.Frames as frames
use Rattle.frame_codec.specs.Frames.{Content, Frame, frame_cut}
use Rattle.frame_codec.specs.Reading.{frame_at}
use Rattle.chunker.specs.Chunks.{Chunk, is_whole_at, message_of}
use Rattle.chunker.specs.Joins.{IsCutOf}
use Rattle.chunker.specs.Spelling.{chunk_at, without_rest}
use Rattle.config_tables.specs.declared.words.NumberingWord.{NumberingWord}
use Rattle.config_tables.specs.declared.words.NumberingWord.TheVariants as words
use Rattle.ps_config.specs.declared.parts.GroupPart.{GroupPart}
use Rattle.ps_config.specs.declared.parts.WriterPart.{WriterPart}
use Rattle.reader_group.specs.Arrivals.{Arrived, Mark, Way, chunks_in, frame_of, framed, goes_by_numbers, is_foreign, is_numbered, item_of, item_on, placed, unnumbered}
use Rattle.reader_group.specs.Members.{Seat}
use Rattle.reader_group.specs.Opening.{Opened}
use Rattle.reader_group.specs.Payloads.{Piece, Message, Chunked, Slotted, Missing, pieces}
use Rattle.reader_group.specs.SlotFrames.{slot_frame_at}
use Rattle.reader_group.proofs.KeptParts.{IsPieceOf, Keep, OfRead, weaker-piece}
use Rattle.writer_group.specs.Payloads.{carried_frame, meta_at, spelled_by, writer_at}
use Rattle.writer_group.specs.Turns.{GroupDeed, TurnInput, answer_by}
use Rattle.group_laws.specs.TurnReading.{IsPartBy, IsPartIf, IsPartOf, frame_read}
use Rattle.session_laws.specs.Plays.{IsAnswerBy}
use Rattle.session_laws.proofs.HeldRows.Pieces.{loud-of, of-err, of-read, own-major}
use Rattle.session_laws.proofs.HeldRows.Sources.{AreSent, IsLaidOf, IsOfAnswer, chunks-are, whole-is}

-- ---- what a writer sent

-- its answers, the number of each of its datagrams under each token with the place in it, and the bytes of the message of each place
pub record Sending : Type 0 where
  pub answered : List Answered
  pub sent : ℕ → List (ℕ × ℕ)
  pub bytes : ℕ → List ℕ

-- it answered this, which was sent under the token with the number
pub record WasSent (s : Sending) (token number : ℕ) (answer : PlacedFrame) : Type 0 where
  pub one_of : IsAnswer s.answered answer
  pub at : Contains (s.sent token) (number, place_of answer)
  pub good : IsPlacedFrame answer

-- ---- a frame and a chunk of it

-- The frame is read of the answer: it is of the reader's major version or tells none, and has the answer's number and content, cut to the reader's fields.
pub record IsReadOf (meta : MetaData) (answer : PlacedFrame) (frame : Frame) : Type 0 where
  pub own : is_foreign meta frame ≡ false
  pub number_is : frame.number ≡ Some (carried answer)
  pub content_is : frame.content ≡ content_of (placed_cut meta answer)

pub record IsSentFrame (s : Sending) (meta : MetaData) (token number : ℕ) (frame : Frame) : Type 0 where
  pub answer : PlacedFrame
  pub was : WasSent s token number answer
  pub is : IsReadOf meta answer frame

-- a chunk of a data frame's message, which is read as that frame
pub record IsSentChunk (s : Sending) (meta : MetaData) (token number : ℕ) (chunk : Chunk) : Type 0 where
  pub answer : PlacedFrame
  pub was : WasSent s token number answer
  pub loud : is_silent answer ≡ false
  pub number_is : chunk.place ≡ carried answer
  pub cut : IsCutOf (s.bytes (place_of answer)) chunk
  pub read : OfRead (IsReadOf meta answer) (frame_at meta (s.bytes (place_of answer)))

abbrev pub IsSentPiece : Sending → MetaData → ℕ → ℕ → Piece → Type 0
IsSentPiece s meta token number piece = IsPieceOf (IsSentFrame s meta token number) (IsSentChunk s meta token number) meta piece

-- all that an opened datagram has for a reader
abbrev pub AreSentPieces : Sending → Seat → Opened → Type 0
AreSentPieces s seat opened = All (IsSentPiece s seat.meta opened.pass.token opened.pass.number) (pieces seat.part opened.payload)

-- ---- a part of a turn's datagram

read-of : (writer : WriterPart) (meta now : MetaData) (answer : PlacedFrame) → meta.major ≡ now.major → IsReadOf meta answer (frame_cut meta (carried_frame writer now answer))
read-of writer meta now (Whole place row) major = record { own = own-major writer.versions meta.major now.major major; number_is = refl; content_is = refl }
read-of writer meta now (Change place patch) major = record { own = own-major writer.versions meta.major now.major major; number_is = refl; content_is = refl }
read-of writer meta now (Alive next) major = record { own = own-major writer.versions meta.major now.major major; number_is = refl; content_is = refl }

-- what the writer answers at the turn is sent so, and the bytes of a data frame's place are its message
pub record IsSentBy (s : Sending) (group : GroupPart) (w : ℕ) (past : List GroupDeed) (input : TurnInput) (meta : MetaData) (token number : ℕ) : Type 0 where
  pub major : meta.major ≡ (meta_at group input.told.metas w).major
  pub was : (answer : PlacedFrame) → answer_by group past input w ≡ Some answer → WasSent s token number answer
  pub bytes : (answer : PlacedFrame) → answer_by group past input w ≡ Some answer → is_silent answer ≡ false → s.bytes (place_of answer) ≡ (spelled_by group input.told.metas w answer).bytes

module _ (s : Sending) (group : GroupPart) (w : ℕ) (past : List GroupDeed) (input : TurnInput) (seat : Seat) (token number : ℕ) (by : IsSentBy s group w past input seat.meta token number) where
  frame-sent : (answer : PlacedFrame) → answer_by group past input w ≡ Some answer → IsSentFrame s seat.meta token number (frame_read group input w seat answer)
  frame-sent answer e = record { answer = answer; was = by.was answer e; is = read-of (writer_at group w) seat.meta (meta_at group input.told.metas w) answer by.major }

  piece-some : (answer : PlacedFrame) (piece : Piece) → answer_by group past input w ≡ Some answer → IsPartOf seat (spelled_by group input.told.metas w answer) (frame_read group input w seat answer) piece
      → IsSentPiece s seat.meta token number piece
  piece-some answer (Message bytes) e of = of-read (IsSentFrame s seat.meta token number) (frame_at seat.meta bytes) (frame_read group input w seat answer) of (frame-sent answer e)
  piece-some answer (Chunked bytes) e of =
      let loud = loud-of (writer_at group w) seat.meta (meta_at group input.told.metas w) answer of.2 in
      let same = by.bytes answer e loud in
      let spelled = (spelled_by group input.told.metas w answer).bytes in
      of-read (IsSentChunk s seat.meta token number) (without_rest (chunk_at bytes)) of.1.chunk of.1.chunk_read (record {
        answer = answer;
        was = by.was answer e;
        loud = loud;
        number_is = of.1.number_is;
        cut = subst (λ (b : List ℕ). IsCutOf b of.1.chunk) (sym same) of.1.cut;
        read = subst (λ (b : List ℕ). OfRead (IsReadOf seat.meta answer) (frame_at seat.meta b)) (sym same)
            (of-read (IsReadOf seat.meta answer) (frame_at seat.meta spelled) (frame_read group input w seat answer) of.0 (read-of (writer_at group w) seat.meta (meta_at group input.told.metas w) answer by.major));
      })
  piece-some answer (Slotted bytes) e of = of-read (IsSentFrame s seat.meta token number) (slot_frame_at seat.meta bytes) (frame_read group input w seat answer) of (frame-sent answer e)
  piece-some answer Missing e of = absurd of

  piece-if : (o : Option PlacedFrame) (piece : Piece) → answer_by group past input w ≡ o → IsPartIf seat (spelled_by group input.told.metas w) (frame_read group input w seat) o piece → IsSentPiece s seat.meta token number piece
  piece-if None (Message bytes) e of = absurd of
  piece-if None (Chunked bytes) e of = absurd of
  piece-if None (Slotted bytes) e of = of-err (IsSentFrame s seat.meta token number) (slot_frame_at seat.meta bytes) of
  piece-if None Missing e of = absurd of
  piece-if (Some answer) piece e of = piece-some answer piece e of

  pub piece-sent : (piece : Piece) → IsPartBy group past input w seat piece → IsSentPiece s seat.meta token number piece
  piece-sent piece of = piece-if (answer_by group past input w) piece refl of

-- ---- what more is sent leaves it

-- what was sent, under the token, stays so
pub record StaysSent (s more : Sending) (token : ℕ) : Type 0 where
  pub answers : (answer : PlacedFrame) → IsAnswer s.answered answer → IsAnswer more.answered answer
  pub sends : (number own : ℕ) → Contains (s.sent token) (number, own) → Contains (more.sent token) (number, own)
  pub bytes : (number own : ℕ) → Contains (s.sent token) (number, own) → more.bytes own ≡ s.bytes own

was-stays : (s more : Sending) (token number : ℕ) (answer : PlacedFrame) → StaysSent s more token → WasSent s token number answer → WasSent more token number answer
was-stays s more token number answer stays was =
    record { one_of = stays.answers answer was.one_of; at = stays.sends number (place_of answer) was.at; good = was.good }

frame-stays : (s more : Sending) (meta : MetaData) (token number : ℕ) → StaysSent s more token → (frame : Frame) → IsSentFrame s meta token number frame → IsSentFrame more meta token number frame
frame-stays s more meta token number stays frame h = record { answer = h.answer; was = was-stays s more token number h.answer stays h.was; is = h.is }

chunk-stays : (s more : Sending) (meta : MetaData) (token number : ℕ) → StaysSent s more token → (chunk : Chunk) → IsSentChunk s meta token number chunk → IsSentChunk more meta token number chunk
chunk-stays s more meta token number stays chunk h =
    let same = stays.bytes number (place_of h.answer) h.was.at in
    record {
      answer = h.answer;
      was = was-stays s more token number h.answer stays h.was;
      loud = h.loud;
      number_is = h.number_is;
      cut = subst (λ (b : List ℕ). IsCutOf b chunk) (sym same) h.cut;
      read = subst (λ (b : List ℕ). OfRead (IsReadOf meta h.answer) (frame_at meta b)) (sym same) h.read;
    }

pub pieces-stay : (s more : Sending) (seat : Seat) (opened : Opened) → StaysSent s more opened.pass.token → AreSentPieces s seat opened → AreSentPieces more seat opened
pieces-stay s more seat opened stays all =
    let token = opened.pass.token in
    let number = opened.pass.number in
    All-weaker (IsSentPiece s seat.meta token number) (IsSentPiece more seat.meta token number)
    (weaker-piece _ _ _ _ seat.meta (frame-stays s more seat.meta token number stays) (chunk-stays s more seat.meta token number stays)) (pieces seat.part opened.payload) all

-- ---- a reader's list

-- the place that the 16 bits of an answer stand for gives the answer back
framed-back : (place : ℕ → ℕ) (meta : MetaData) (answer : PlacedFrame) → IsPlacedFrame answer → place (number_of_place (place_of answer)) ≡ place_of answer
    → framed place (content_of (placed_cut meta answer)) (carried answer) ≡ placed_cut meta answer
framed-back place meta (Whole at row) good named = ap (λ (p : ℕ). Whole p (row_cut meta row)) named
framed-back place meta (Change at patch) good named = ap (λ (p : ℕ). Change p (patch_cut meta patch)) named
framed-back place meta (Alive next) good named =
    let silent : (number_of_place next + 65535) % 65536 ≡ number_of_place (next - 1) = number-before next good in
    let one : next - 1 + 1 ≡ next = omega (arith, good) in
    ap Alive (ap (λ (n : ℕ). place n + 1) silent ∙ ap (λ (n : ℕ). n + 1) named ∙ one)

loud-number : (answer : PlacedFrame) → is_silent answer ≡ false → carried answer ≡ number_of_place (place_of answer)
loud-number (Whole at row) loud = refl
loud-number (Change at patch) loud = refl
loud-number (Alive next) loud = absurd (cc)

-- what a frame of the data set gives, by numbers and with no numbering
gives-by : (way : Way) (place : ℕ → ℕ) (frame : Frame) (number : ℕ) (content : Content) (b : Bool) → goes_by_numbers way ≡ b → is_foreign way.seat.meta frame ≡ false → frame.number ≡ Some number → frame.content ≡ content
    → frame_of way place frame ≡ (if b then Some (framed place content number) else unnumbered content)
gives-by way place frame number content true by own number_is content_is =
    ap (λ (f : Bool). if f then None else if goes_by_numbers way then option_map (framed place frame.content) frame.number else unnumbered frame.content) own
    ∙ ap (λ (n : Bool). if n then option_map (framed place frame.content) frame.number else unnumbered frame.content) by
    ∙ ap (λ (o : Option ℕ). option_map (framed place frame.content) o) number_is
    ∙ ap (λ (c : Content). Some (framed place c number)) content_is
gives-by way place frame number content false by own number_is content_is =
    ap (λ (f : Bool). if f then None else if goes_by_numbers way then option_map (framed place frame.content) frame.number else unnumbered frame.content) own
    ∙ ap (λ (n : Bool). if n then option_map (framed place frame.content) frame.number else unnumbered frame.content) by
    ∙ ap unnumbered content_is

unnumbered-is : (frame : PlacedFrame) → unnumbered (content_of frame) ≡ without_place frame
unnumbered-is (Whole at row) = refl
unnumbered-is (Change at patch) = refl
unnumbered-is (Alive next) = refl

read-answer : (meta : MetaData) (answered : List Answered) (answer : PlacedFrame) (frame : Frame) → IsAnswer answered answer → IsReadOf meta answer frame → IsOfAnswer meta answered frame
read-answer meta answered answer frame one_of is = record { placed = answer; answer = one_of; own = is.own; number = is.number_is; content = is.content_is }

map-read : {X F : Type 0} (P Q : X → Type 0) (read : Result X F) → ((x : X) → P x → Q x) → OfRead P read → OfRead Q read
map-read P Q (Ok x) more h = more x h
map-read P Q (Err fault) more h = tt

-- an item with this frame, if there is one, is an answer
abbrev IsItem : NumberingWord → MetaData → List Answered → Option PlacedFrame → Type 0
IsItem word meta answered None = ⊤
IsItem word meta answered (Some frame) = (now : ℕ) (stamp : Option ℕ) → IsAnswerBy word meta answered (item_of now stamp frame)

bare-item : (meta : MetaData) (answered : List Answered) (frame : PlacedFrame) (o : Option PlacedFrame) → IsAnswer answered frame → without_place (placed_cut meta frame) ≡ o → IsItem words.None meta answered o
bare-item meta answered frame None is e = tt
bare-item meta answered frame (Some given) is e = λ now stamp. record { frame = frame; answer = is; bare = e }

item-marked : (word : NumberingWord) (meta : MetaData) (answered : List Answered) (bytes : ℕ → List ℕ) (b : Bool) (before : List Mark) (item : Item) → IsAnswerBy word meta answered item → AreSent word meta answered bytes before
    → AreSent word meta answered bytes (if b then Arrived (Came item) ∷ Arrived (Cut Jump) ∷ before else Arrived (Came item) ∷ before)
item-marked word meta answered bytes true before item is h = record { items = (is, h.items); chunks = h.chunks }
item-marked word meta answered bytes false before item is h = record { items = (is, h.items); chunks = h.chunks }

-- each item is an answer, cut to the reader's fields, and each chunk one of an answer
abbrev pub AreSentMarks : Sending → Way → List Mark → Type 0
AreSentMarks s way list = AreSent way.seat.part.numbering way.seat.meta s.answered s.bytes list

module _ (s : Sending) (way : Way) (token number : ℕ) (named : (own : ℕ) → Contains (s.sent token) (number, own) → way.place token number (number_of_place own) ≡ own) where
  abbrev meta : MetaData
  meta = way.seat.meta

  abbrev place : ℕ → ℕ
  place = way.place token number

  gives : (word : NumberingWord) → way.seat.part.numbering ≡ word → (frame : Frame) → IsSentFrame s meta token number frame → IsItem word meta s.answered (frame_of way place frame)
  gives words.Message by frame is =
      let answer = is.answer in
      let given = gives-by way place frame (carried answer) (content_of (placed_cut meta answer)) true (ap is_numbered by) is.is.own is.is.number_is is.is.content_is in
      let back = framed-back place meta answer is.was.good (named (place_of answer) is.was.at) in
      subst (IsItem words.Message meta s.answered) (sym (given ∙ ap (λ (f : PlacedFrame). Some f) back)) (λ now stamp. record { frame = answer; answer = is.was.one_of; cut = refl })
  gives words.None by frame is =
      let answer = is.answer in
      let given = gives-by way place frame (carried answer) (content_of (placed_cut meta answer)) false (ap is_numbered by) is.is.own is.is.number_is is.is.content_is in
      subst (IsItem words.None meta s.answered) (sym (given ∙ unnumbered-is (placed_cut meta answer))) (bare-item meta s.answered answer (without_place (placed_cut meta answer)) is.was.one_of refl)

  item-kept : (now : ℕ) (stamp : Option ℕ) (before : List Mark) (o : Option PlacedFrame) → IsItem way.seat.part.numbering meta s.answered o → AreSentMarks s way before → AreSentMarks s way (item_on way now stamp before o)
  item-kept now stamp before None is h = h
  item-kept now stamp before (Some frame) is h = item-marked way.seat.part.numbering meta s.answered s.bytes _ before (item_of now stamp frame) (is now stamp) h

  laid-at : (chunk : Chunk) (is : IsSentChunk s meta token number chunk) → place chunk.place ≡ place_of is.answer
  laid-at chunk is = ap place (is.number_is ∙ loud-number is.answer is.loud) ∙ named (place_of is.answer) is.was.at

  laid : (chunk : Chunk) → IsSentChunk s meta token number chunk → IsLaidOf meta s.answered s.bytes (placed place chunk)
  laid chunk is =
      let at = laid-at chunk is in
      let cut : IsCutOf (s.bytes (place chunk.place)) chunk = subst (λ (p : ℕ). IsCutOf (s.bytes p) chunk) (sym at) is.cut in
      record {
        placed = is.answer;
        answer = is.was.one_of;
        loud = is.loud;
        place = at;
        cut = record { total = cut.total; bytes = cut.bytes };
        read = subst (λ (p : ℕ). OfRead (IsOfAnswer meta s.answered) (frame_at meta (s.bytes p))) (sym at)
            (map-read (IsReadOf meta is.answer) (IsOfAnswer meta s.answered) (frame_at meta (s.bytes (place_of is.answer))) (λ frame of. read-answer meta s.answered is.answer frame is.was.one_of of) is.read);
      }

  whole-read : (before : List Mark) (chunk : Chunk) → IsSentChunk s meta token number chunk → AreSentMarks s way before → is_whole_at (chunks_in before) (placed place chunk) ≡ true
      → (let c = placed place chunk in OfRead (IsSentFrame s meta token number) (frame_at meta (message_of (c ∷ chunks_in before) c.place c.total)))
  whole-read before chunk is h whole =
      let c = placed place chunk in
      let at : c.place ≡ place_of is.answer = laid-at chunk is in
      let message : message_of (c ∷ chunks_in before) c.place c.total ≡ s.bytes (place_of is.answer) =
      whole-is meta s.answered s.bytes c (chunks_in before) (laid chunk is) (chunks-are (IsLaidOf meta s.answered s.bytes) before h.chunks) whole ∙ ap s.bytes at in
      subst (λ (b : List ℕ). OfRead (IsSentFrame s meta token number) (frame_at meta b)) (sym message)
      (map-read (IsReadOf meta is.answer) (IsSentFrame s meta token number) (frame_at meta (s.bytes (place_of is.answer))) (λ frame of. record { answer = is.answer; was = is.was; is = of }) is.read)

  pub marks-kept : (now : ℕ) (stamp : Option ℕ) → Keep (AreSentMarks s way) (IsSentFrame s meta token number) (IsSentChunk s meta token number) way place now stamp
  marks-kept now stamp = record {
    item = λ before frame is h. item-kept now stamp before (frame_of way place frame) (gives way.seat.part.numbering refl frame is) h;
    chunk = λ before chunk is h. record { items = h.items; chunks = (laid chunk is, h.chunks) };
    whole = whole-read;
  }
