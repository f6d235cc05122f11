-- What the parts of datagrams and cuts keep of a reader's list since its last cut.
use Rattle.std.proofs.Common.{◌≡◌, refl, sym, ap, subst, ℕ, Bool, true, false, List, [], ◌∷◌, map, Option, Some, None, All, Contains}
use Rattle.std.specs.Prelude.{◌&&◌, if◌then◌else◌}
use Rattle.std.proofs.lemmas.List.Elements.{All-cons, All-head, All-nil, All-tail}
use Rattle.seq_number.specs.Numbers.{number_of_place}
use Rattle.dataset_meta.specs.Metas.{MetaData}
use Rattle.dataset_reader.specs.Keeping.{jumps}
use Rattle.pubsub_model.specs.Cadence.{Answered}
use Rattle.pubsub_model.specs.declared.reading.Why.{Why}
use Rattle.pubsub_model.specs.declared.reading.Why.TheVariants.{Jump, Restarted}
use Rattle.pubsub_model.specs.Frames.{PlacedFrame}
use Rattle.pubsub_model.specs.Records.{Came, Cut, Item, since_cut}
use Rattle.frame_codec.specs.Frames.{Frame}
use Rattle.frame_codec.specs.Reading.{frame_at}
use Rattle.chunker.specs.Chunks.{Chunk, is_whole_at, message_of}
use Rattle.config_tables.specs.declared.words.NumberingWord.{NumberingWord}
use Rattle.reader_group.specs.Arrivals.{Arrived, Laid, Mark, Way, arrivals_in, chunks_in, clears, cut_on, frame_of, goes_by_numbers, item_of, item_on, placed}
use Rattle.reader_group.proofs.KeptParts.{Keep, OfRead}
use Rattle.session_laws.specs.Plays.{IsAnswerBy}
use Rattle.session_laws.proofs.HeldRows.Sources.{IsLaidOf, unless-are}
use Rattle.turn_laws.proofs.Contents.{AreSentMarks, IsSentChunk, IsSentFrame, Sending, marks-kept}

-- each item since the last cut is an answer, and each chunk that counts one of an answer
pub record AreSentSince (word : NumberingWord) (meta : MetaData) (answered : List Answered) (bytes : ℕ → List ℕ) (list : List Mark) : Type 0 where
  pub items : All (IsAnswerBy word meta answered) (since_cut (arrivals_in list))
  pub chunks : All (IsLaidOf meta answered bytes) (chunks_in list)

-- a cut of any reason but Jump leaves none
pub none-since : (word : NumberingWord) (meta : MetaData) (answered : List Answered) (bytes : ℕ → List ℕ) (list : List Mark) → AreSentSince word meta answered bytes (Arrived (Cut Restarted) ∷ list)
none-since word meta answered bytes list = record { items = All-nil (IsAnswerBy word meta answered); chunks = All-nil (IsLaidOf meta answered bytes) }

pub cut-since : (word : NumberingWord) (meta : MetaData) (answered : List Answered) (bytes : ℕ → List ℕ) (b : Bool) (why : Why) (list : List Mark) → AreSentSince word meta answered bytes list → AreSentSince word meta answered bytes (cut_on b why list)
cut-since word meta answered bytes true why list h = record { items = All-nil (IsAnswerBy word meta answered); chunks = unless-are (IsLaidOf meta answered bytes) (clears why) (chunks_in list) h.chunks }
cut-since word meta answered bytes false why list h = h

module _ (s : Sending) (way : Way) (token number : ℕ) (named : (own : ℕ) → Contains (s.sent token) (number, own) → way.place token number (number_of_place own) ≡ own) (now : ℕ) (stamp : Option ℕ) where
  abbrev place : ℕ → ℕ
  place = way.place token number

  abbrev P : Item → Type 0
  P item = IsAnswerBy way.seat.part.numbering way.seat.meta s.answered item

  abbrev C : Chunk → Type 0
  C chunk = IsLaidOf way.seat.meta s.answered s.bytes chunk

  abbrev Since : List Mark → Type 0
  Since list = AreSentSince way.seat.part.numbering way.seat.meta s.answered s.bytes list

  abbrev A : Frame → Type 0
  A frame = IsSentFrame s way.seat.meta token number frame

  all-kept : Keep (AreSentMarks s way) A (IsSentChunk s way.seat.meta token number) way place now stamp
  all-kept = marks-kept s way token number named now stamp

  first-item : (j : Bool) (item : Item) → AreSentMarks s way (if j then Arrived (Came item) ∷ Arrived (Cut Jump) ∷ [] else Arrived (Came item) ∷ []) → P item
  first-item true item are = are.items.0
  first-item false item are = are.items.0

  with-item : (j : Bool) (before : List Mark) (item : Item) → P item → Since before → Since (if j then Arrived (Came item) ∷ Arrived (Cut Jump) ∷ before else Arrived (Came item) ∷ before)
  with-item true before item is h = record { items = All-cons P item [] is (All-nil P); chunks = h.chunks }
  with-item false before item is h = record { items = All-cons P item (since_cut (arrivals_in before)) is h.items; chunks = h.chunks }

  on-frame : (before : List Mark) (o : Option PlacedFrame) → AreSentMarks s way (item_on way now stamp [] o) → Since before → Since (item_on way now stamp before o)
  on-frame before None are h = h
  on-frame before (Some frame) are h =
      let item = item_of now stamp frame in
      with-item (goes_by_numbers way && jumps (since_cut (arrivals_in before)) stamp) before item
      (first-item (goes_by_numbers way && jumps (since_cut (arrivals_in [])) stamp) item are) h

  -- the chunks alone
  laid-alone : (chunks : List Chunk) → All C chunks → AreSentMarks s way (map Laid chunks)
  laid-alone [] all = record { items = tt; chunks = tt }
  laid-alone (chunk ∷ chunks) all = let rest = laid-alone chunks (All-tail C chunk chunks all) in record { items = rest.items; chunks = (All-head C chunk chunks all, rest.chunks) }

  chunks-alone : (chunks : List Chunk) → chunks_in (map Laid chunks) ≡ chunks
  chunks-alone [] = refl
  chunks-alone (chunk ∷ chunks) = ap (λ (l : List Chunk). chunk ∷ l) (chunks-alone chunks)

  whole-since : (before : List Mark) (chunk : Chunk) → IsSentChunk s way.seat.meta token number chunk → Since before → is_whole_at (chunks_in before) (placed place chunk) ≡ true
      → OfRead A (frame_at way.seat.meta (message_of (placed place chunk ∷ chunks_in before) (placed place chunk).place (placed place chunk).total))
  whole-since before chunk is h whole =
      let c = placed place chunk in
      let same = chunks-alone (chunks_in before) in
      subst (λ (l : List Chunk). OfRead A (frame_at way.seat.meta (message_of (c ∷ l) c.place c.total))) same
      (all-kept.whole (map Laid (chunks_in before)) chunk is (laid-alone (chunks_in before) h.chunks) (subst (λ (l : List Chunk). is_whole_at l c ≡ true) (sym same) whole))

  pub since-kept : Keep Since A (IsSentChunk s way.seat.meta token number) way place now stamp
  since-kept = record {
    item = λ before frame is h. on-frame before (frame_of way place frame) (all-kept.item [] frame is (record { items = tt; chunks = tt })) h;
    chunk = λ before chunk is h. (
        let one = all-kept.chunk [] chunk is (record { items = tt; chunks = tt }) in
        record { items = h.items; chunks = All-cons C (placed place chunk) (chunks_in before) one.chunks.0 h.chunks });
    whole = whole-since;
  }
