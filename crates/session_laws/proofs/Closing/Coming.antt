-- What a part of a frame adds to a reader's list, and what the parts behind it leave there.
use Rattle.std.proofs.Common.{◌≡◌, ◌≢◌, refl, sym, ap, ◌∙◌, subst, arith, ℕ, zero, suc, ◌+◌, ◌<◌, ◌≤◌, ◌⊎◌, inl, inr, Bool, true, false, not, List, [], ◌∷◌, length, Option, Some, None, All, Contains}
use Rattle.std.specs.Prelude.{◌&&◌, ◌||◌, ◌==◌, nat_le, nat_lt, filter, fold, Result, Ok, Err, if◌then◌else◌}
use Rattle.std.specs.List.{list_all}
use Rattle.std.proofs.lemmas.Bool.Decides.{nat_tests}
use Rattle.std.proofs.lemmas.List.Elements.{All-cons, All-head, All-nil, All-tail, All-weaker}
use Rattle.seq_number.specs.Numbers.{greatest, place_from}
use Rattle.pubsub_model.specs.declared.reading.Why.TheVariants.{Jump}
use Rattle.pubsub_model.specs.Answers.{IsAnswer}
use Rattle.pubsub_model.specs.Cadence.{Answered}
use Rattle.pubsub_model.specs.Frames.{PlacedFrame, place_of, is_silent}
use Rattle.pubsub_model.specs.Records.{Came, Cut, Item, place_in, since_cut}
use Rattle.frame_codec.specs.Frames.{Frame}
use Rattle.frame_codec.specs.declared.fault.FrameFault.{FrameFault}
use Rattle.frame_codec.specs.Reading.{frame_at}
use Rattle.dataset_reader.specs.Keeping.{jumps}
use Rattle.chunker.specs.Chunks.{Chunk, at_greatest, cover, is_proper, is_whole_at, longest_message, message_of, places}
use Rattle.chunker.specs.declared.payload.ChunkFault.{ChunkFault}
use Rattle.chunker.specs.Spelling.{chunk_at, without_rest}
use Rattle.chunker.proofs.ChunkLaws.{at_place, cover-at_place, cover_none}
use Rattle.reader_group.specs.Arrivals.{Way, Mark, Arrived, Laid, arrivals_in, chunk_on, chunks_in, comes, frame_of, goes_by_numbers, item_of, item_on, piece_on, placed, read_on}
use Rattle.reader_group.specs.Payloads.{Piece, Message, Chunked, Slotted, Missing}
use Rattle.reader_group.specs.SlotFrames.{slot_frame_at}
use Rattle.reader_group.proofs.KeptParts.{IsKept, IsPieceOf, Keep, OfRead, keep-parts, keep-pieces}
use Rattle.config_tables.specs.declared.words.NumberingWord.{NumberingWord}
use Rattle.session_laws.proofs.HeldRows.Sources.{AreSent, IsChunkOf, IsLaidOf, IsOfAnswer, Source, chunk-laid, chunks-are, whole-is}

-- ---- an item at a place

abbrev pub HasItem : ℕ → List Item → Type 0
HasItem place [] = ⊥
HasItem place (item ∷ before) = (place_in item ≡ place) ⊎ HasItem place before

-- it stands in the list since the last cut
abbrev pub Stands : ℕ → List Mark → Type 0
Stands place list = HasItem place (since_cut (arrivals_in list))

abbrev cut_if : Bool → Item → List Mark → List Mark
cut_if jump item before = if jump then Arrived (Came item) ∷ Arrived (Cut Jump) ∷ before else Arrived (Came item) ∷ before

none-jumps : (a : Bool) (items : List Item) → (a && jumps items None) ≡ false
none-jumps true items = refl
none-jumps false items = refl

-- an item without a nonce number leaves it there
stays-behind : (place : ℕ) (item : Item) (before : List Mark) (jump : Bool) → jump ≡ false → Stands place before → Stands place (cut_if jump item before)
stays-behind place item before true e h = absurd (cc)
stays-behind place item before false e h = inr h

pub stands-behind : (place : ℕ) (way : Way) (now : ℕ) (before : List Mark) (frame : PlacedFrame) → Stands place before → Stands place (comes way before (item_of now None frame))
stands-behind place way now before frame h =
    stays-behind place (item_of now None frame) before (goes_by_numbers way && jumps (since_cut (arrivals_in before)) None) (none-jumps (goes_by_numbers way) (since_cut (arrivals_in before))) h

-- an item at the place puts it there
stays-new : (place : ℕ) (item : Item) (before : List Mark) (jump : Bool) → place_in item ≡ place → Stands place (cut_if jump item before)
stays-new place item before true at = inl at
stays-new place item before false at = inl at

pub stands-new : (place : ℕ) (way : Way) (now : ℕ) (s : Option ℕ) (before : List Mark) (frame : PlacedFrame) → place_of frame ≡ place → Stands place (comes way before (item_of now s frame))
stands-new place way now s before frame at = stays-new place (item_of now s frame) before (goes_by_numbers way && jumps (since_cut (arrivals_in before)) s) at

-- parts behind it leave it there
stands-kept : (place : ℕ) (way : Way) (now : ℕ) → IsKept (Stands place) way now None
stands-kept place way now = record { item = λ before frame h. stands-behind place way now before frame h; chunk = λ before c h. h }

pub stands-parts : (place : ℕ) (way : Way) (at : ℕ → ℕ) (now : ℕ) (parts : List Piece) (before : List Mark) → Stands place before → Stands place (fold (piece_on way at now None) before parts)
stands-parts place way at now parts before h = keep-pieces (Stands place) way at now None (stands-kept place way now) parts before h

-- ---- a chunk

abbrev pub HasChunk : Chunk → List Chunk → Type 0
HasChunk chunk [] = ⊥
HasChunk chunk (c ∷ chunks) = (c ≡ chunk) ⊎ HasChunk chunk chunks

abbrev pub Lies : Chunk → List Mark → Type 0
Lies chunk list = HasChunk chunk (chunks_in list)

pub has-contains : (chunk : Chunk) (chunks : List Chunk) → HasChunk chunk chunks → Contains chunks chunk
has-contains chunk [] none = absurd none
has-contains chunk (c ∷ chunks) (inl here) = (0, omega arith, here)
has-contains chunk (c ∷ chunks) (inr more) = let rest = has-contains chunk chunks more in (suc rest.0, let lt = rest.1 in omega (arith, lt), rest.2)

-- an item leaves the chunks
same-if : (item : Item) (before : List Mark) (jump : Bool) → chunks_in (cut_if jump item before) ≡ chunks_in before
same-if item before true = refl
same-if item before false = refl

pub same-chunks : (way : Way) (before : List Mark) (item : Item) → chunks_in (comes way before item) ≡ chunks_in before
same-chunks way before item = same-if item before (goes_by_numbers way && jumps (since_cut (arrivals_in before)) item.stamp)

lies-kept : (chunk : Chunk) (way : Way) (now : ℕ) (s : Option ℕ) → IsKept (Lies chunk) way now s
lies-kept chunk way now s = record {
  item = λ before frame h. subst (HasChunk chunk) (sym (same-chunks way before (item_of now s frame))) h;
  chunk = λ before c h. inr h;
}

pub lies-parts : (chunk : Chunk) (way : Way) (at : ℕ → ℕ) (now : ℕ) (s : Option ℕ) (parts : List Piece) (before : List Mark) → Lies chunk before → Lies chunk (fold (piece_on way at now s) before parts)
lies-parts chunk way at now s parts before h = keep-pieces (Lies chunk) way at now s (lies-kept chunk way now s) parts before h

-- what is read leaves the chunks
same-on : (way : Way) (now : ℕ) (s : Option ℕ) (before : List Mark) (o : Option PlacedFrame) → chunks_in (item_on way now s before o) ≡ chunks_in before
same-on way now s before None = refl
same-on way now s before (Some f) = same-chunks way before (item_of now s f)

pub read-same : (way : Way) (at : ℕ → ℕ) (now : ℕ) (s : Option ℕ) (before : List Mark) (r : Result Frame FrameFault) → chunks_in (read_on way at now s before r) ≡ chunks_in before
read-same way at now s before (Err fault) = refl
read-same way at now s before (Ok f) = same-on way now s before (frame_of way at f)

-- ---- covers

differ-test : (a b : ℕ) → a ≢ b → (a == b) ≡ false
differ-test a b differ = grind (arith, nat_tests, differ)

-- a chunk at another place covers nothing of it
pub cover-other : (c : Chunk) (chunks : List Chunk) (place total : ℕ) → c.place ≢ place → cover (c ∷ chunks) place total ≡ cover chunks place total
cover-other c chunks place total differ =
    sym (cover-at_place place total (c ∷ chunks))
    ∙ ap (λ (b : Bool). cover (if b then c ∷ at_place place chunks else at_place place chunks) place total) (differ-test c.place place differ)
    ∙ cover-at_place place total chunks

-- chunks of other places cover nothing
pub none-covered : (place total : ℕ) (chunks : List Chunk) → 0 < total → All (λ c. c.place ≢ place) chunks → cover chunks place total ≡ false
none-covered place total [] some all = cover_none place total some
none-covered place total (c ∷ chunks) some all =
    cover-other c chunks place total (All-head (λ (c : Chunk). c.place ≢ place) c chunks all) ∙ none-covered place total chunks some (All-tail (λ (c : Chunk). c.place ≢ place) c chunks all)

-- ---- a frame whose last place this is

module _ (word : NumberingWord) (way : Way) (answered : List Answered) (bytes : ℕ → List ℕ) (first next place : ℕ) (source : Source way answered first next)
    (last : (frame : PlacedFrame) → IsAnswer answered frame → is_silent frame ≡ false → place_of frame ≤ place) where
  abbrev total : ℕ
  total = length (bytes place)

  abbrev AreAll : List Mark → Type 0
  AreAll list = AreSent word way.seat.meta answered bytes list

  abbrev of_frame : Frame → Type 0
  of_frame f = IsOfAnswer way.seat.meta answered f

  abbrev of_chunk : Chunk → Type 0
  of_chunk c = IsChunkOf way.seat.meta answered bytes c

  -- the frame is read
  pub reads-frame : (frame : Frame) (given : PlacedFrame) → frame_of way (place_from first) frame ≡ Some given → place_of given ≡ place → (now : ℕ) (s : Option ℕ) (before : List Mark) → Stands place (read_on way (place_from first) now s before (Ok frame))
  reads-frame frame given gives at now s before = subst (λ (o : Option PlacedFrame). Stands place (item_on way now s before o)) (sym gives) (stands-new place way now s before given at)

  low : (before : List Mark) → AreAll before → All (λ c. c.place ≤ place) (chunks_in before)
  low before are =
      All-weaker (IsLaidOf way.seat.meta answered bytes) (λ c. c.place ≤ place)
      (λ c laid. let less = last laid.placed laid.answer laid.loud in let own = laid.place in omega (arith, less, own)) (chunks_in before) (chunks-are (IsLaidOf way.seat.meta answered bytes) before are.chunks)

  all-low : (chunks : List Chunk) → All (λ c. c.place ≤ place) chunks → list_all (λ c. nat_le c.place place) chunks ≡ true
  all-low [] all = refl
  all-low (c ∷ chunks) all =
      let le = All-head (λ c. c.place ≤ place) c chunks all in
      let head : nat_le c.place place ≡ true = grind (arith, nat_tests, le) in
      ap (λ (b : Bool). b && list_all (λ c. nat_le c.place place) chunks) head ∙ all-low chunks (All-tail (λ c. c.place ≤ place) c chunks all)

  not-whole : (a b c : Bool) → a ≡ true → b ≡ true → (a && b && not c) ≡ false → c ≡ true
  not-whole true true true ea eb e = refl
  not-whole true true false ea eb e = absurd (cc)
  not-whole true false c ea eb e = absurd (cc)
  not-whole false b c ea eb e = absurd (cc)

  same-total : (c : Chunk) → IsLaidOf way.seat.meta answered bytes c → c.place ≡ place → c.total ≡ total
  same-total c laid own = laid.cut.total ∙ ap (λ (n : ℕ). length (bytes n)) own

  abbrev of_piece : Piece → Type 0
  of_piece piece = IsPieceOf of_frame of_chunk way.seat.meta piece

  -- what an item with this stamp leaves, and what the frame brings, stands where the chunks cover the message
  module _ (frame : Frame) (given : PlacedFrame) (gives : frame_of way (place_from first) frame ≡ Some given) (now : ℕ) (s : Option ℕ) (Q : List Mark → Type 0) (behind : (before : List Mark) (f : PlacedFrame) → Q before → Q (comes way before (item_of now s f))) (laid : (before : List Mark) (c : Chunk) → Q before → Q (Laid c ∷ before))
      (new : (before : List Mark) → Q (comes way before (item_of now s given))) where
    abbrev Covered : List Mark → Type 0
    Covered list = cover (chunks_in list) place total ≡ true → Q list

    reads-new : (before : List Mark) → Q (read_on way (place_from first) now s before (Ok frame))
    reads-new before = subst (λ (o : Option PlacedFrame). Q (item_on way now s before o)) (sym gives) (new before)

    covered-item : (before : List Mark) (o : Option PlacedFrame) → Covered before → Covered (item_on way now s before o)
    covered-item before None h = h
    covered-item before (Some f) h = λ e. behind before f (h (ap (λ (l : List Chunk). cover l place total) (sym (same-chunks way before (item_of now s f))) ∙ e))

    covered-read : (before : List Mark) (r : Result Frame FrameFault) → Covered before → Covered (read_on way (place_from first) now s before r)
    covered-read before (Err fault) h = h
    covered-read before (Ok f) h = covered-item before (frame_of way (place_from first) f) h

    -- a chunk at another place
    covered-other : (before : List Mark) (c : Chunk) → c.place ≢ place → Covered before → Covered (Laid c ∷ before)
    covered-other before c differ h = λ e. laid before c (h (sym (cover-other c (chunks_in before) place total differ) ∙ e))

    -- a chunk at the place that doesn't make the message whole
    covered-part : (before : List Mark) (c : Chunk) → AreAll before → c.place ≡ place → c.total ≡ total → is_whole_at (chunks_in before) c ≡ false → Covered before → Covered (Laid c ∷ before)
    covered-part before c are own whole e h = λ covers.
        let chunks = chunks_in before in
        let lows : list_all (λ x. nat_le x.place c.place) chunks ≡ true = ap (λ (n : ℕ). list_all (λ x. nat_le x.place n) chunks) own ∙ all-low chunks (low before are) in
        let full : cover (c ∷ chunks) c.place c.total ≡ true = ap (λ (n : ℕ). cover (c ∷ chunks) n c.total) own ∙ ap (λ (n : ℕ). cover (c ∷ chunks) place n) whole ∙ covers in
        let was = not-whole (list_all (λ x. nat_le x.place c.place) chunks) (cover (c ∷ chunks) c.place c.total) (cover chunks c.place c.total) lows full e in
        laid before c (h (sym (ap (λ (n : ℕ). cover chunks n c.total) own ∙ ap (λ (n : ℕ). cover chunks place n) whole) ∙ was))

    -- whose message is read as it
    module _ (read : frame_at way.seat.meta (bytes place) ≡ Ok frame) where
      -- one that does
      whole-stands : (before : List Mark) (c : Chunk) → AreAll before → IsLaidOf way.seat.meta answered bytes c → c.place ≡ place → is_whole_at (chunks_in before) c ≡ true
          → Q (read_on way (place_from first) now s (Laid c ∷ before) (frame_at way.seat.meta (message_of (c ∷ chunks_in before) c.place c.total)))
      whole-stands before c are laid own e =
          let message : message_of (c ∷ chunks_in before) c.place c.total ≡ bytes place =
          whole-is way.seat.meta answered bytes c (chunks_in before) laid (chunks-are (IsLaidOf way.seat.meta answered bytes) before are.chunks) e ∙ ap bytes own in
          subst (λ (r : Result Frame FrameFault). Q (read_on way (place_from first) now s (Laid c ∷ before) r)) (sym (ap (frame_at way.seat.meta) message ∙ read)) (reads-new (Laid c ∷ before))

      covered-laid : (before : List Mark) (c : Chunk) (proper whole own : Bool) → is_whole_at (chunks_in before) c ≡ whole → (c.place == place) ≡ own → AreAll before → IsLaidOf way.seat.meta answered bytes c → Covered before
          → Covered (if not proper then before
          else if whole then read_on way (place_from first) now s (Laid c ∷ before) (frame_at way.seat.meta (message_of (c ∷ chunks_in before) c.place c.total))
          else Laid c ∷ before)
      covered-laid before c false whole own e is are laid h = h
      covered-laid before c true true true e is are laid h = λ covers. whole-stands before c are laid (grind (arith, nat_tests)) e
      covered-laid before c true true false e is are laid h =
          covered-read (Laid c ∷ before) (frame_at way.seat.meta (message_of (c ∷ chunks_in before) c.place c.total)) (covered-other before c (grind (arith, nat_tests)) h)
      covered-laid before c true false true e is are laid h = let same : c.place ≡ place = grind (arith, nat_tests) in covered-part before c are same (same-total c laid same) e h
      covered-laid before c true false false e is are laid h = covered-other before c (grind (arith, nat_tests)) h

      covered-chunk : (before : List Mark) (r : Result Chunk ChunkFault) → OfRead of_chunk r → AreAll before → Covered before → Covered (chunk_on way (place_from first) now s before r)
      covered-chunk before (Err fault) of are h = h
      covered-chunk before (Ok chunk) of are h =
          let c = placed (place_from first) chunk in
          covered-laid before c (is_proper (chunks_in before) c) (is_whole_at (chunks_in before) c) (c.place == place) refl refl are (chunk-laid way answered bytes first next chunk source of) h

      pub covered-piece : (before : List Mark) (piece : Piece) → IsPieceOf of_frame of_chunk way.seat.meta piece → AreAll before → Covered before → Covered (piece_on way (place_from first) now s before piece)
      covered-piece before (Message b) of are h = covered-read before (frame_at way.seat.meta b) h
      covered-piece before (Chunked b) of are h = covered-chunk before (without_rest (chunk_at b)) of are h
      covered-piece before (Slotted b) of are h = covered-read before (slot_frame_at way.seat.meta b) h
      covered-piece before Missing of are h = h

      pub covered-parts : Keep AreAll of_frame of_chunk way (place_from first) now s → (parts : List Piece) (before : List Mark) → All of_piece parts → AreAll before → Covered before
          → Covered (fold (piece_on way (place_from first) now s) before parts)
      covered-parts keep [] before of are h = h
      covered-parts keep (piece ∷ parts) before of are h =
          let head = All-head of_piece piece parts of in
          covered-parts keep parts (piece_on way (place_from first) now s before piece) (All-tail of_piece piece parts of)
          (keep-parts AreAll of_frame of_chunk way (place_from first) now s keep (piece ∷ []) before (All-cons of_piece piece [] head (All-nil of_piece)) are)
          (covered-piece before piece head are h)

  -- a chunk with which the chunks cover the message: that is read
  module _ (frame : Frame) (read : frame_at way.seat.meta (bytes place) ≡ Ok frame) (now : ℕ) (s : Option ℕ) (before : List Mark) (are : AreAll before) (none : cover (chunks_in before) place total ≡ false) where
    abbrev laid_by : Bool → Bool → Chunk → List Mark
    laid_by proper whole c =
        if not proper then before
        else if whole then read_on way (place_from first) now s (Laid c ∷ before) (frame_at way.seat.meta (message_of (c ∷ chunks_in before) c.place c.total))
        else Laid c ∷ before

    never : {X : Type 0} (b : Bool) → b ≡ false → b ≡ true → X
    never b e f = absurd (let wrong : false ≡ true = sym e ∙ f in cc)

    flip-laid : (c : Chunk) (proper whole own : Bool) → is_whole_at (chunks_in before) c ≡ whole → (c.place == place) ≡ own → IsLaidOf way.seat.meta answered bytes c → cover (chunks_in (laid_by proper whole c)) place total ≡ true
        → laid_by proper whole c ≡ read_on way (place_from first) now s (Laid c ∷ before) (Ok frame)
    flip-laid c false whole own e is laid full = never (cover (chunks_in before) place total) none full
    flip-laid c true true true e is laid full =
        let same : c.place ≡ place = grind (arith, nat_tests) in
        let message : message_of (c ∷ chunks_in before) c.place c.total ≡ bytes place =
        whole-is way.seat.meta answered bytes c (chunks_in before) laid (chunks-are (IsLaidOf way.seat.meta answered bytes) before are.chunks) e ∙ ap bytes same in
        ap (λ (r : Result Frame FrameFault). read_on way (place_from first) now s (Laid c ∷ before) r) (ap (frame_at way.seat.meta) message ∙ read)
    flip-laid c true true false e is laid full =
        let differ : c.place ≢ place = grind (arith, nat_tests) in
        never (cover (chunks_in before) place total) none
        (sym (ap (λ (l : List Chunk). cover l place total) (read-same way (place_from first) now s (Laid c ∷ before) (frame_at way.seat.meta (message_of (c ∷ chunks_in before) c.place c.total))) ∙ cover-other c (chunks_in before) place total differ) ∙ full)
    flip-laid c true false true e is laid full =
        let same : c.place ≡ place = grind (arith, nat_tests) in
        let size = same-total c laid same in
        let chunks = chunks_in before in
        let lows : list_all (λ x. nat_le x.place c.place) chunks ≡ true = ap (λ (n : ℕ). list_all (λ x. nat_le x.place n) chunks) same ∙ all-low chunks (low before are) in
        let covers : cover (c ∷ chunks) c.place c.total ≡ true = ap (λ (n : ℕ). cover (c ∷ chunks) n c.total) same ∙ ap (λ (n : ℕ). cover (c ∷ chunks) place n) size ∙ full in
        let was = not-whole (list_all (λ x. nat_le x.place c.place) chunks) (cover (c ∷ chunks) c.place c.total) (cover chunks c.place c.total) lows covers e in
        never (cover chunks place total) none (sym (ap (λ (n : ℕ). cover chunks n c.total) same ∙ ap (λ (n : ℕ). cover chunks place n) size) ∙ was)
    flip-laid c true false false e is laid full =
        let differ : c.place ≢ place = grind (arith, nat_tests) in never (cover (chunks_in before) place total) none (sym (cover-other c (chunks_in before) place total differ) ∙ full)

    flip-read : (r : Result Chunk ChunkFault) → OfRead of_chunk r → cover (chunks_in (chunk_on way (place_from first) now s before r)) place total ≡ true
        → (c : Chunk) × (chunk_on way (place_from first) now s before r ≡ read_on way (place_from first) now s (Laid c ∷ before) (Ok frame))
    flip-read (Err fault) of full = never (cover (chunks_in before) place total) none full
    flip-read (Ok chunk) of full =
        let c = placed (place_from first) chunk in
        (c, flip-laid c (is_proper (chunks_in before) c) (is_whole_at (chunks_in before) c) (c.place == place) refl refl (chunk-laid way answered bytes first next chunk source of) full)

    pub flip-chunk : (b : List ℕ) → OfRead of_chunk (without_rest (chunk_at b)) → cover (chunks_in (piece_on way (place_from first) now s before (Chunked b))) place total ≡ true
        → (c : Chunk) × (piece_on way (place_from first) now s before (Chunked b) ≡ read_on way (place_from first) now s (Laid c ∷ before) (Ok frame))
    flip-chunk b of full = flip-read (without_rest (chunk_at b)) of full

  -- one of the parts is read as the frame
  pub reads-among : (now : ℕ) (piece : Piece) → ((before : List Mark) → Stands place (piece_on way (place_from first) now None before piece)) → (parts : List Piece) (before : List Mark) → Contains parts piece
      → Stands place (fold (piece_on way (place_from first) now None) before parts)
  reads-among now piece reads [] before has = absurd (let below = has.1 in omega (arith, below))
  reads-among now piece reads (x ∷ parts) before (zero, below, same) =
      stands-parts place way (place_from first) now parts (piece_on way (place_from first) now None before x)
      (subst (λ (y : Piece). Stands place (piece_on way (place_from first) now None before y)) (sym same) (reads before))
  reads-among now piece reads (x ∷ parts) before (suc k, below, same) =
      reads-among now piece reads parts (piece_on way (place_from first) now None before x) (k, omega (arith, below), same)

  -- ---- a chunk of the message is laid

  own-total : (chunks : List Chunk) → All (IsLaidOf way.seat.meta answered bytes) chunks → (n : ℕ) → n ≡ total → list_all (λ c. not (c.place == place) || (c.total == n)) chunks ≡ true
  own-total [] all n is = refl
  own-total (c ∷ chunks) all n is =
      let laid = All-head (IsLaidOf way.seat.meta answered bytes) c chunks all in
      ap (λ (b : Bool). b && list_all (λ c. not (c.place == place) || (c.total == n)) chunks) (one (c.place == place) refl laid) ∙ own-total chunks (All-tail (IsLaidOf way.seat.meta answered bytes) c chunks all) n is
    where
      one : (b : Bool) → (c.place == place) ≡ b → IsLaidOf way.seat.meta answered bytes c → (not (c.place == place) || (c.total == n)) ≡ true
      one true e laid =
          let same : c.place ≡ place = grind (arith, nat_tests) in
          let sizes : c.total ≡ total = same-total c laid same in
          let test : (c.total == n) ≡ true = grind (arith, nat_tests, sizes, is) in
          ap (λ (b : Bool). not b || (c.total == n)) e ∙ test
      one false e laid = ap (λ (b : Bool). not b || (c.total == n)) e

  filtered : (test keep : Chunk → Bool) (chunks : List Chunk) → list_all test chunks ≡ true → list_all test (filter keep chunks) ≡ true
  filtered test keep [] e = refl
  filtered test keep (c ∷ chunks) e = on (keep c) (test c) refl e (filtered test keep chunks)
    where
      on : (b t : Bool) → test c ≡ t → (t && list_all test chunks) ≡ true → (list_all test chunks ≡ true → list_all test (filter keep chunks) ≡ true)
          → list_all test (if b then c ∷ filter keep chunks else filter keep chunks) ≡ true
      on true true is e rest = ap (λ (x : Bool). x && list_all test (filter keep chunks)) is ∙ rest e
      on true false is e rest = absurd (cc)
      on false true is e rest = rest e
      on false false is e rest = absurd (cc)

  all-four : (a b c d : Bool) → a ≡ true → b ≡ true → c ≡ true → d ≡ true → (a && b && c && d) ≡ true
  all-four a b c d ea eb ec ed = ap (λ (x : Bool). x && b && c && d) ea ∙ ap (λ (x : Bool). x && c && d) eb ∙ ap (λ (x : Bool). x && d) ec ∙ ed

  -- its chunks count
  pub proper : (before : List Mark) (c : Chunk) → AreAll before → IsLaidOf way.seat.meta answered bytes c → c.place ≡ place → 0 < length c.bytes → c.offset + length c.bytes ≤ c.total → total ≤ longest_message
      → is_proper (chunks_in before) c ≡ true
  proper before c are laid own some within short =
      let chunks = chunks_in before in
      let size = same-total c laid own in
      let totals : list_all (λ x. not (x.place == c.place) || (x.total == c.total)) chunks ≡ true =
      ap (λ (n : ℕ). list_all (λ x. not (x.place == n) || (x.total == c.total)) chunks) own ∙ own-total chunks (chunks-are (IsLaidOf way.seat.meta answered bytes) before are.chunks) c.total size in
      all-four (nat_lt 0 (length c.bytes)) (nat_le (c.offset + length c.bytes) c.total) (nat_le c.total longest_message) (list_all (λ x. not (x.place == c.place) || (x.total == c.total)) (at_greatest chunks))
      (grind (arith, nat_tests, some)) (grind (arith, nat_tests, within)) (grind (arith, nat_tests, size, short))
      (filtered (λ x. not (x.place == c.place) || (x.total == c.total)) (λ x. x.place == greatest (places chunks)) chunks totals)

  lies-read : (now : ℕ) (s : Option ℕ) (c : Chunk) (before : List Mark) (r : Result Frame FrameFault) → Lies c before → Lies c (read_on way (place_from first) now s before r)
  lies-read now s c before (Err fault) h = h
  lies-read now s c before (Ok f) h = on (frame_of way (place_from first) f)
    where
      on : (o : Option PlacedFrame) → Lies c (item_on way now s before o)
      on None = h
      on (Some f) = subst (HasChunk c) (sym (same-chunks way before (item_of now s f))) h

  lies-laid : (now : ℕ) (s : Option ℕ) (before : List Mark) (c : Chunk) (proper whole : Bool) → proper ≡ true
      → Lies c (if not proper then before
      else if whole then read_on way (place_from first) now s (Laid c ∷ before) (frame_at way.seat.meta (message_of (c ∷ chunks_in before) c.place c.total))
      else Laid c ∷ before)
  lies-laid now s before c false whole e = absurd (cc)
  lies-laid now s before c true true e = lies-read now s c (Laid c ∷ before) (frame_at way.seat.meta (message_of (c ∷ chunks_in before) c.place c.total)) (inl refl)
  lies-laid now s before c true false e = inl refl

  pub lies-chunk : (now : ℕ) (s : Option ℕ) (before : List Mark) (b : List ℕ) (chunk : Chunk) → without_rest (chunk_at b) ≡ Ok chunk → is_proper (chunks_in before) (placed (place_from first) chunk) ≡ true
      → Lies (placed (place_from first) chunk) (piece_on way (place_from first) now s before (Chunked b))
  lies-chunk now s before b chunk is counts =
      let c = placed (place_from first) chunk in
      subst (λ (r : Result Chunk ChunkFault). Lies c (chunk_on way (place_from first) now s before r)) (sym is)
      (lies-laid now s before c (is_proper (chunks_in before) c) (is_whole_at (chunks_in before) c) counts)

  -- one of the parts is a chunk of the message
  pub lies-among : (now : ℕ) (s : Option ℕ) (b : List ℕ) (chunk : Chunk) → Keep AreAll of_frame of_chunk way (place_from first) now s → without_rest (chunk_at b) ≡ Ok chunk
      → ((before : List Mark) → AreAll before → is_proper (chunks_in before) (placed (place_from first) chunk) ≡ true)
      → (parts : List Piece) (before : List Mark) → All of_piece parts → AreAll before → Contains parts (Chunked b)
      → Lies (placed (place_from first) chunk) (fold (piece_on way (place_from first) now s) before parts)
  lies-among now s b chunk keep is counts [] before of are has = absurd (let below = has.1 in omega (arith, below))
  lies-among now s b chunk keep is counts (x ∷ parts) before of are (zero, below, same) =
      lies-parts (placed (place_from first) chunk) way (place_from first) now s parts (piece_on way (place_from first) now s before x)
      (subst (λ (y : Piece). Lies (placed (place_from first) chunk) (piece_on way (place_from first) now s before y)) (sym same) (lies-chunk now s before b chunk is (counts before are)))
  lies-among now s b chunk keep is counts (x ∷ parts) before of are (suc k, below, same) =
      let head = All-head of_piece x parts of in
      lies-among now s b chunk keep is counts parts (piece_on way (place_from first) now s before x) (All-tail of_piece x parts of)
      (keep-parts AreAll of_frame of_chunk way (place_from first) now s keep (x ∷ []) before (All-cons of_piece x [] head (All-nil of_piece)) are)
      (k, omega (arith, below), same)
