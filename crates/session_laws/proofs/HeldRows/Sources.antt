-- The frames and chunks that come of a writer's answers, and what they add to a reader's list.
use Rattle.std.proofs.Common.{◌≡◌, refl, sym, ap, ◌∙◌, subst, arith, ℕ, ◌+◌, ◌-◌, ◌≤◌, Bool, true, false, not, ◌&&◌, List, [], ◌∷◌, Option, Some, None, All, Contains}
use Rattle.std.specs.Prelude.{⊤, ◌%◌, option_map, if◌then◌else◌}
use Rattle.std.proofs.lemmas.List.Elements.{All-nil, All-cons, All-contains, All-weaker}
use Rattle.seq_number.specs.Numbers.{number_of_place, place_from}
use Rattle.seq_number.proofs.NumberLaws.{place_from-number, number-before}
use Rattle.dataset_meta.specs.Metas.{MetaData}
use Rattle.dataset_meta.specs.Rows.{row_cut, patch_cut}
use Rattle.pubsub_model.specs.declared.reading.Why.TheVariants.{Jump}
use Rattle.pubsub_model.specs.Frames.{PlacedFrame, Whole, Change, Alive, place_of, carried, is_silent}
use Rattle.pubsub_model.specs.Cadence.{Answered}
use Rattle.pubsub_model.specs.Records.{Came, Cut, Item, since_cut}
use Rattle.frame_codec.specs.Frames.{Content, Frame}
use Rattle.frame_codec.specs.Carrying.{content_of}
use Rattle.frame_codec.specs.Reading.{frame_at}
use Rattle.dataset_reader.specs.Keeping.{jumps}
use Rattle.chunker.specs.Chunks.{Chunk, cover, is_whole_at, message_of}
use Rattle.chunker.specs.Joins.{IsCutOf}
use Rattle.chunker.proofs.CutLaws.{message-back}
use Rattle.config_tables.specs.declared.words.NumberingWord.{NumberingWord}
use Rattle.config_tables.specs.declared.words.NumberingWord.TheVariants as words
use Rattle.reader_group.specs.Arrivals.{Way, Mark, Arrived, Laid, is_foreign, is_numbered, goes_by_numbers, frame_of, framed, unnumbered, arrivals_in, chunks_in, chunks_unless, clears, item_of, item_on, placed}
use Rattle.pubsub_model.specs.Frames.{placed_cut}
use Rattle.pubsub_model.specs.Answers.{IsAnswer, without_place}
use Rattle.session_laws.specs.Plays.{ItemsAre, IsAnswerBy}
use Rattle.pubsub_model.specs.Answers.{InSpan}
use Rattle.reader_group.proofs.KeptParts.{OfRead, Keep}

-- ---- of an answer

-- a frame that is read of an answer: it is of the reader's major version or tells none, and has the answer's number and content, cut to the reader's fields
pub record IsOfAnswer (meta : MetaData) (answered : List Answered) (frame : Frame) : Type 0 where
  pub placed : PlacedFrame
  pub answer : IsAnswer answered placed
  pub own : is_foreign meta frame ≡ false
  pub number : frame.number ≡ Some (carried placed)
  pub content : frame.content ≡ content_of (placed_cut meta placed)

-- a chunk of an answer's message, with the answer's number; the message is read as such a frame
pub record IsChunkOf (meta : MetaData) (answered : List Answered) (bytes : ℕ → List ℕ) (chunk : Chunk) : Type 0 where
  pub placed : PlacedFrame
  pub answer : IsAnswer answered placed
  pub loud : is_silent placed ≡ false
  pub number : chunk.place ≡ carried placed
  pub cut : IsCutOf (bytes (place_of placed)) chunk
  pub read : OfRead (IsOfAnswer meta answered) (frame_at meta (bytes (place_of placed)))

-- the same, with the answer's place
pub record IsLaidOf (meta : MetaData) (answered : List Answered) (bytes : ℕ → List ℕ) (chunk : Chunk) : Type 0 where
  pub placed : PlacedFrame
  pub answer : IsAnswer answered placed
  pub loud : is_silent placed ≡ false
  pub place : chunk.place ≡ place_of placed
  pub cut : IsCutOf (bytes chunk.place) chunk
  pub read : OfRead (IsOfAnswer meta answered) (frame_at meta (bytes chunk.place))

-- ---- the list of a reader

abbrev pub ChunksAre : (Chunk → Type 0) → List Mark → Type 0
ChunksAre C [] = Unit {0}
ChunksAre C (Laid chunk ∷ before) = C chunk × ChunksAre C before
ChunksAre C (Arrived arrival ∷ before) = ChunksAre C before

-- each item is an answer, and each chunk one of an answer
pub record AreSent (word : NumberingWord) (meta : MetaData) (answered : List Answered) (bytes : ℕ → List ℕ) (list : List Mark) : Type 0 where
  pub items : ItemsAre (IsAnswerBy word meta answered) (arrivals_in list)
  pub chunks : ChunksAre (IsLaidOf meta answered bytes) list

pub unless-are : (C : Chunk → Type 0) (b : Bool) (chunks : List Chunk) → All C chunks → All C (chunks_unless b chunks)
unless-are C true chunks h = All-nil C
unless-are C false chunks h = h

pub chunks-are : (C : Chunk → Type 0) (list : List Mark) → ChunksAre C list → All C (chunks_in list)
chunks-are C [] h = All-nil C
chunks-are C (Laid chunk ∷ before) h = All-cons C chunk (chunks_in before) h.0 (chunks-are C before h.1)
chunks-are C (Arrived (Came item) ∷ before) h = chunks-are C before h
chunks-are C (Arrived (Cut why) ∷ before) h = unless-are C (clears why) (chunks_in before) (chunks-are C before h)

-- ---- an item

-- its number gives the place of an answer back
framed-back : (first next : ℕ) (meta : MetaData) (frame : PlacedFrame) → next ≤ first + 65536 → InSpan first next frame
    → framed (place_from first) (content_of (placed_cut meta frame)) (carried frame) ≡ placed_cut meta frame
framed-back first next meta (Whole place row) le h = ap (λ (p : ℕ). Whole p (row_cut meta row)) (place_from-number first place h.0 (let lt = h.1 in omega (arith, lt, le)))
framed-back first next meta (Change place patch) le h = ap (λ (p : ℕ). Change p (patch_cut meta patch)) (place_from-number first place h.0 (let lt = h.1 in omega (arith, lt, le)))
framed-back first next meta (Alive n) le h =
    let low = h.0 in let high = h.1 in
    let silent : (number_of_place n + 65535) % 65536 ≡ number_of_place (n - 1) = number-before n (omega (arith, low)) in
    let back : place_from first (number_of_place (n - 1)) ≡ n - 1 = place_from-number first (n - 1) (omega (arith, low)) (omega (arith, low, high, le)) in
    let one : n - 1 + 1 ≡ n = omega (arith, low) in
    ap Alive (ap (λ (m : ℕ). place_from first m + 1) silent ∙ ap (λ (m : ℕ). m + 1) back ∙ one)

unnumbered-is : (frame : PlacedFrame) → unnumbered (content_of frame) ≡ without_place frame
unnumbered-is (Whole place row) = refl
unnumbered-is (Change place patch) = refl
unnumbered-is (Alive next) = refl

-- by numbers
by-number : (way : Way) (place : ℕ → ℕ) (frame : Frame) (number : ℕ) (content : Content) (b : Bool) → goes_by_numbers way ≡ b → is_foreign way.seat.meta frame ≡ false → frame.number ≡ Some number → frame.content ≡ content
    → frame_of way place frame ≡ (if b then Some (framed place content number) else unnumbered content)
by-number way place frame number content true by own number_is content_is =
    ap (λ (f : Bool). if f then None else if goes_by_numbers way then option_map (framed place frame.content) frame.number else unnumbered frame.content) own
    ∙ ap (λ (n : Bool). if n then option_map (framed place frame.content) frame.number else unnumbered frame.content) by
    ∙ ap (λ (o : Option ℕ). option_map (framed place frame.content) o) number_is
    ∙ ap (λ (c : Content). Some (framed place c number)) content_is
by-number way place frame number content false by own number_is content_is =
    ap (λ (f : Bool). if f then None else if goes_by_numbers way then option_map (framed place frame.content) frame.number else unnumbered frame.content) own
    ∙ ap (λ (n : Bool). if n then option_map (framed place frame.content) frame.number else unnumbered frame.content) by
    ∙ ap unnumbered content_is

-- what such frames give
pub record Source (way : Way) (answered : List Answered) (first next : ℕ) : Type 0 where
  pub spans : (frame : PlacedFrame) → IsAnswer answered frame → InSpan first next frame
  pub few : next ≤ first + 65536

abbrev IsItem : NumberingWord → MetaData → List Answered → Option PlacedFrame → Type 0
IsItem word meta answered None = ⊤
IsItem word meta answered (Some frame) = (now : ℕ) (s : Option ℕ) → IsAnswerBy word meta answered (item_of now s frame)

bare-item : (meta : MetaData) (answered : List Answered) (f : PlacedFrame) (o : Option PlacedFrame) → IsAnswer answered f → without_place (placed_cut meta f) ≡ o → IsItem words.None meta answered o
bare-item meta answered f None is e = tt
bare-item meta answered f (Some frame) is e = λ now s. record { frame = f; answer = is; bare = e }

-- by numbers such a frame is the answer's
pub frame-gives : (way : Way) (answered : List Answered) (first next : ℕ) (frame : Frame) → way.seat.part.numbering ≡ words.Message → Source way answered first next → (is : IsOfAnswer way.seat.meta answered frame)
    → frame_of way (place_from first) frame ≡ Some (placed_cut way.seat.meta is.placed)
frame-gives way answered first next frame by source is =
    by-number way (place_from first) frame (carried is.placed) (content_of (placed_cut way.seat.meta is.placed)) true (ap is_numbered by) is.own is.number is.content
    ∙ ap (λ (f : PlacedFrame). Some f) (framed-back first next way.seat.meta is.placed source.few (source.spans is.placed is.answer))

-- with no numbering it is the answer's without its place
pub frame-bare : (way : Way) (answered : List Answered) (first : ℕ) (frame : Frame) → way.seat.part.numbering ≡ words.None → (is : IsOfAnswer way.seat.meta answered frame)
    → frame_of way (place_from first) frame ≡ without_place (placed_cut way.seat.meta is.placed)
frame-bare way answered first frame by is =
    let cut = placed_cut way.seat.meta is.placed in
    by-number way (place_from first) frame (carried is.placed) (content_of cut) false (ap is_numbered by) is.own is.number is.content ∙ unnumbered-is cut

item-is : (word : NumberingWord) (way : Way) (answered : List Answered) (first next : ℕ) (frame : Frame) → way.seat.part.numbering ≡ word → Source way answered first next → IsOfAnswer way.seat.meta answered frame
    → IsItem word way.seat.meta answered (frame_of way (place_from first) frame)
item-is words.Message way answered first next frame by source is =
    subst (IsItem words.Message way.seat.meta answered) (sym (frame-gives way answered first next frame by source is)) (λ now s. record { frame = is.placed; answer = is.answer; cut = refl })
item-is words.None way answered first next frame by source is =
    subst (IsItem words.None way.seat.meta answered) (sym (frame-bare way answered first frame by is)) (bare-item way.seat.meta answered is.placed (without_place (placed_cut way.seat.meta is.placed)) is.answer refl)

item-marked : (word : NumberingWord) (meta : MetaData) (answered : List Answered) (bytes : ℕ → List ℕ) (j : Bool) (before : List Mark) (item : Item) → IsAnswerBy word meta answered item → AreSent word meta answered bytes before
    → AreSent word meta answered bytes (if j then Arrived (Came item) ∷ Arrived (Cut Jump) ∷ before else Arrived (Came item) ∷ before)
item-marked word meta answered bytes true before item is h = record { items = (is, h.items); chunks = h.chunks }
item-marked word meta answered bytes false before item is h = record { items = (is, h.items); chunks = h.chunks }

item-sent : (word : NumberingWord) (way : Way) (answered : List Answered) (bytes : ℕ → List ℕ) (now : ℕ) (s : Option ℕ) (before : List Mark) (o : Option PlacedFrame) → IsItem word way.seat.meta answered o
    → AreSent word way.seat.meta answered bytes before → AreSent word way.seat.meta answered bytes (item_on way now s before o)
item-sent word way answered bytes now s before None is h = h
item-sent word way answered bytes now s before (Some frame) is h =
    item-marked word way.seat.meta answered bytes (goes_by_numbers way && jumps (since_cut (arrivals_in before)) s) before (item_of now s frame) (is now s) h

-- ---- a chunk

loud-back : (first next : ℕ) (frame : PlacedFrame) → next ≤ first + 65536 → is_silent frame ≡ false → InSpan first next frame → place_from first (carried frame) ≡ place_of frame
loud-back first next (Whole place row) le loud h = place_from-number first place h.0 (let lt = h.1 in omega (arith, lt, le))
loud-back first next (Change place patch) le loud h = place_from-number first place h.0 (let lt = h.1 in omega (arith, lt, le))
loud-back first next (Alive n) le loud h = absurd (cc)

-- a chunk that is laid with the place of its number
pub chunk-laid : (way : Way) (answered : List Answered) (bytes : ℕ → List ℕ) (first next : ℕ) (chunk : Chunk) → Source way answered first next → IsChunkOf way.seat.meta answered bytes chunk
    → IsLaidOf way.seat.meta answered bytes (placed (place_from first) chunk)
chunk-laid way answered bytes first next chunk source is =
    let place : place_from first chunk.place ≡ place_of is.placed = ap (place_from first) is.number ∙ loud-back first next is.placed source.few is.loud (source.spans is.placed is.answer) in
    let cut : IsCutOf (bytes (place_from first chunk.place)) chunk = subst (λ (p : ℕ). IsCutOf (bytes p) chunk) (sym place) is.cut in
    record {
      placed = is.placed;
      answer = is.answer;
      loud = is.loud;
      place = place;
      cut = record { total = cut.total; bytes = cut.bytes };
      read = subst (λ (p : ℕ). OfRead (IsOfAnswer way.seat.meta answered) (frame_at way.seat.meta (bytes p))) (sym place) is.read;
    }

whole-cover : (a b c : Bool) → (a && b && not c) ≡ true → b ≡ true
whole-cover true true c e = refl
whole-cover true false c e = absurd (cc)
whole-cover false b c e = absurd (cc)

-- a message whose chunks are cut from the one of its place is that, where it is whole
pub whole-cut : (bytes : ℕ → List ℕ) (c : Chunk) (chunks : List Chunk) → IsCutOf (bytes c.place) c → All (λ (c : Chunk). IsCutOf (bytes c.place) c) chunks → is_whole_at chunks c ≡ true
    → message_of (c ∷ chunks) c.place c.total ≡ bytes c.place
whole-cut bytes c chunks is all whole =
    let message = bytes c.place in
    let covered : cover (c ∷ chunks) c.place c.total ≡ true = whole-cover _ (cover (c ∷ chunks) c.place c.total) (cover chunks c.place c.total) whole in
    let every = All-cons (λ (c : Chunk). IsCutOf (bytes c.place) c) c chunks is all in
    let cut : (chunk : Chunk) → Contains (c ∷ chunks) chunk → chunk.place ≡ c.place → IsCutOf message chunk =
    λ chunk has at. subst (λ (p : ℕ). IsCutOf (bytes p) chunk) at (All-contains (λ (c : Chunk). IsCutOf (bytes c.place) c) (c ∷ chunks) chunk every has) in
    ap (message_of (c ∷ chunks) c.place) is.total ∙ message-back message c.place (c ∷ chunks) cut (subst (λ (n : ℕ). cover (c ∷ chunks) c.place n ≡ true) is.total covered)

-- and so the answer's
pub whole-is : (meta : MetaData) (answered : List Answered) (bytes : ℕ → List ℕ) (c : Chunk) (chunks : List Chunk) → IsLaidOf meta answered bytes c → All (IsLaidOf meta answered bytes) chunks
    → is_whole_at chunks c ≡ true → message_of (c ∷ chunks) c.place c.total ≡ bytes c.place
whole-is meta answered bytes c chunks is all whole =
    whole-cut bytes c chunks is.cut (All-weaker (IsLaidOf meta answered bytes) (λ (c : Chunk). IsCutOf (bytes c.place) c) (λ c laid. laid.cut) chunks all) whole

whole-read : (way : Way) (answered : List Answered) (bytes : ℕ → List ℕ) (first next : ℕ) (word : NumberingWord) (before : List Mark) (chunk : Chunk) → Source way answered first next → IsChunkOf way.seat.meta answered bytes chunk
    → AreSent word way.seat.meta answered bytes before → is_whole_at (chunks_in before) (placed (place_from first) chunk) ≡ true
    → (let c = placed (place_from first) chunk in OfRead (IsOfAnswer way.seat.meta answered) (frame_at way.seat.meta (message_of (c ∷ chunks_in before) c.place c.total)))
whole-read way answered bytes first next word before chunk source is h whole =
    let laid = chunk-laid way answered bytes first next chunk source is in
    subst (λ (b : List ℕ). OfRead (IsOfAnswer way.seat.meta answered) (frame_at way.seat.meta b))
    (sym (whole-is way.seat.meta answered bytes (placed (place_from first) chunk) (chunks_in before) laid (chunks-are (IsLaidOf way.seat.meta answered bytes) before h.chunks) whole)) laid.read

-- ---- all that such frames and chunks keep

pub sent-kept : (word : NumberingWord) (way : Way) (answered : List Answered) (bytes : ℕ → List ℕ) (first next now : ℕ) (s : Option ℕ) → way.seat.part.numbering ≡ word → Source way answered first next
    → Keep (AreSent word way.seat.meta answered bytes) (IsOfAnswer way.seat.meta answered) (IsChunkOf way.seat.meta answered bytes) way (place_from first) now s
sent-kept word way answered bytes first next now s by source = record {
  item = λ before frame is h. item-sent word way answered bytes now s before (frame_of way (place_from first) frame) (item-is word way answered first next frame by source is) h;
  chunk = λ before chunk is h. record { items = h.items; chunks = (chunk-laid way answered bytes first next chunk source is, h.chunks) };
  whole = λ before chunk is h e. whole-read way answered bytes first next word before chunk source is h e;
}
