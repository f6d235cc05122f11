-- Places of one span are near, and so what a matched reader keeps is what Records has of what came.
use Rattle.std.proofs.Common.{◌≡◌, arith, ℕ, ◌+◌, ◌<◌, ◌≤◌, List, [], ◌∷◌, map, length, Some, All}
use Rattle.std.specs.Prelude.{slice_get}
use Rattle.std.proofs.lemmas.List.{length-map}
use Rattle.std.proofs.lemmas.List.Elements.{All-nil, All-cons, All-head, All-tail, All-weaker}
use Rattle.std.proofs.lemmas.Option.{slice_get-get_or}
use Rattle.seq_number.specs.Numbers.{number_of_place, place_from, greatest, IsNear}
use Rattle.dataset_meta.specs.Metas.{MetaData}
use Rattle.pubsub_model.specs.Cadence.{Settings, WriterDeed, cadence, next_place}
use Rattle.pubsub_model.specs.Records.{Arrival, Came, Cut, Item, place_in, since_cut}
use Rattle.dataset_reader.specs.Keeping.{AreNearInEach}
use Rattle.chunker.specs.Chunks.{Chunk, places}
use Rattle.config_tables.specs.declared.words.NumberingWord.{NumberingWord}
use Rattle.config_tables.specs.declared.words.NumberingWord.TheVariants as words
use Rattle.ps_config.specs.declared.parts.Config.{Config}
use Rattle.reader_group.specs.Arrivals.{Mark, Arrived, Laid, is_numbered, chunks_in}
use Rattle.reader_group.specs.Agreeing.{ChunksNear, NearBy, IsWayOf, MemberIs}
use Rattle.reader_group.specs.Members.{no_seat}
use Rattle.reader_group.specs.Settings.{seat_in}
use Rattle.writer_group.specs.Payloads.{writer_at}
use Rattle.writer_group.specs.Turns.{writer_past}
use Rattle.pubsub_model.specs.Answers.{IsAnswerCut}
pub use Rattle.session_laws.specs.Below.{AgreeLaw}
use Rattle.session_laws.specs.Pasts.{settings_at}
use Rattle.session_laws.specs.Plays.{Play, IsPlay, ItemsAre, IsAnswerBy, its_setting, its_way, its_meta, its_past, its_answers, its_marks, its_arrivals, its_member}
use Rattle.pubsub_model.proofs.HeldRows.{item-placed}
use Rattle.session_laws.proofs.HeldRows.Marks.{all-sent}
use Rattle.session_laws.proofs.HeldRows.Pieces.{TurnLaws}
use Rattle.pubsub_model.proofs.AnswerPlaces.{answers-span, place-span}
use Rattle.session_laws.proofs.HeldRows.Sources.{ChunksAre, IsLaidOf, chunks-are}

-- ---- one span

abbrev pub InOne : ℕ → ℕ → Type 0
InOne low place = (low ≤ place) × (place ≤ low + 16384)

greatest-in : (low place : ℕ) (before : List ℕ) → All (InOne low) (place ∷ before) → InOne low (greatest (place ∷ before))
greatest-in low place [] all = let h = All-head (InOne low) place [] all in (let a = h.0 in omega (arith, a), let b = h.1 in omega (arith, b))
greatest-in low place (last ∷ before) all =
    let h = All-head (InOne low) place (last ∷ before) all in
    let rest = greatest-in low last before (All-tail (InOne low) place (last ∷ before) all) in
    (let a = h.0 in omega (arith, a), let b = h.1 in let c = rest.1 in omega (arith, b, c))

pub span-near : (low : ℕ) (list : List ℕ) → All (InOne low) list → IsNear list
span-near low [] all = tt
span-near low (place ∷ []) all = tt
span-near low (place ∷ last ∷ before) all =
    let h = All-head (InOne low) place (last ∷ before) all in
    let rest = greatest-in low last before (All-tail (InOne low) place (last ∷ before) all) in
    let a = h.0 in let b = h.1 in let c = rest.0 in let d = rest.1 in
    (omega (arith, b, c), omega (arith, a, d), span-near low (last ∷ before) (All-tail (InOne low) place (last ∷ before) all))

mapped : {X : Type 0} (P : ℕ → Type 0) (f : X → ℕ) (xs : List X) → All (λ x. P (f x)) xs → All P (map f xs)
mapped P f [] all = All-nil P
mapped P f (x ∷ xs) all = All-cons P (f x) (map f xs) (All-head (λ x. P (f x)) x xs all) (mapped P f xs (All-tail (λ x. P (f x)) x xs all))

-- ---- items

pub items-since : (P : Item → Type 0) (arrivals : List Arrival) → ItemsAre P arrivals → All P (since_cut arrivals)
items-since P [] h = All-nil P
items-since P (Cut why ∷ before) h = All-nil P
items-since P (Came item ∷ before) h = All-cons P item (since_cut before) h.0 (items-since P before h.1)

items-near : (low : ℕ) (P : Item → Type 0) (arrivals : List Arrival) → ((item : Item) → P item → InOne low (place_in item)) → ItemsAre P arrivals → AreNearInEach arrivals
items-near low P [] within h = tt
items-near low P (Cut why ∷ before) within h = items-near low P before within h
items-near low P (Came item ∷ before) within h = (
  span-near low (map place_in (since_cut (Came item ∷ before))) (mapped (InOne low) place_in (since_cut (Came item ∷ before)) (All-weaker P (λ item. InOne low (place_in item)) within (since_cut (Came item ∷ before)) (items-since P (Came item ∷ before) h))),
  items-near low P before within h.1,
)

near-by : (word : NumberingWord) (meta : MetaData) (s : Settings) (deeds : List WriterDeed) (arrivals : List Arrival) → next_place s (cadence s deeds) ≤ s.first_number + 16385 → ItemsAre (IsAnswerBy word meta (cadence s deeds)) arrivals
    → NearBy (is_numbered word) arrivals
near-by words.None meta s deeds arrivals few h = tt
near-by words.Message meta s deeds arrivals few h =
    items-near s.first_number (IsAnswerCut meta (cadence s deeds)) arrivals
    (λ item is. let placed = item-placed meta s deeds item is in (placed.0, let lt = placed.1 in omega (arith, lt, few))) h

-- ---- chunks

chunks-near : (low : ℕ) (C : Chunk → Type 0) (list : List Mark) → ((chunk : Chunk) → C chunk → InOne low chunk.place) → ChunksAre C list → ChunksNear list
chunks-near low C [] within h = tt
chunks-near low C (Arrived arrival ∷ before) within h = chunks-near low C before within h
chunks-near low C (Laid chunk ∷ before) within h = (
  span-near low (places (chunk ∷ chunks_in before)) (mapped (InOne low) (λ (c : Chunk). c.place) (chunk ∷ chunks_in before)
      (All-weaker C (λ c. InOne low c.place) within (chunk ∷ chunks_in before) (All-cons C chunk (chunks_in before) h.0 (chunks-are C before h.1)))),
  chunks-near low C before within h.1,
)

laid-in : (meta : MetaData) (s : Settings) (deeds : List WriterDeed) (bytes : ℕ → List ℕ) (chunk : Chunk) → next_place s (cadence s deeds) ≤ s.first_number + 16385 → IsLaidOf meta (cadence s deeds) bytes chunk → InOne s.first_number chunk.place
laid-in meta s deeds bytes chunk few is =
    let span = place-span s.first_number (next_place s (cadence s deeds)) is.placed (answers-span s deeds is.placed is.answer) in
    let at = is.place in let low = span.0 in let high = span.1 in
    (omega (arith, at, low), omega (arith, at, high, few))

-- ---- the reader

way-numbers : (first n : ℕ) → number_of_place (place_from first n) ≡ number_of_place n
way-numbers first n = omega arith

seats-at : (config : Config) (readers : List Rattle.ps_config.specs.declared.parts.ReaderPart.ReaderPart) (reader : ℕ) → reader < length readers
    → slice_get (map (seat_in config) readers) reader ≡ Some (Rattle.std.specs.Prelude.slice_index_or (map (seat_in config) readers) reader no_seat)
seats-at config readers reader within = slice_get-get_or (map (seat_in config) readers) reader no_seat (omega (arith, within, length-map readers (seat_in config)))

pub way-of : (most : ℕ) (p : Play) → IsPlay most p → IsWayOf (its_setting p) (its_way p) p.events
way-of most p is = record {
  seat = seats-at p.config p.readers.reader p.reader is.matched.within;
  numbers = λ token number n. way-numbers (writer_at p.group p.writer).first_number n;
  restarts = is.restarts;
}

-- what a matched reader keeps is what Arrivals and Records have of it
pub reads-by-records : TurnLaws → AgreeLaw → (p : Play) → IsPlay 16385 p → MemberIs (its_way p) (its_marks p) (its_member p)
reads-by-records laws agrees p is =
    let h = all-sent laws 16385 p (omega arith) is in
    let s = settings_at p.group p.writer in
    let deeds = writer_past p.writer (its_past p) in
    agrees (its_setting p) (its_way p) p.events (way-of 16385 p is) (near-by (its_way p).seat.part.numbering (its_meta p) s deeds (its_arrivals p) is.few h.items)
    (chunks-near s.first_number (IsLaidOf (its_meta p) (its_answers p) _) (its_marks p) (λ chunk laid. laid-in (its_meta p) s deeds _ chunk is.few laid) h.chunks)
