-- How many datagrams a turn makes, and how many bytes they take.
use Rattle.std.proofs.Common.{◌≡◌, ℕ, zero, suc, ◌+◌, ◌-◌, ◌/◌, ◌<◌, ◌≤◌, Bool, true, false, List, [], ◌∷◌, ◌++◌, length, map, drop, get_or, refl, sym, ap, subst, ◌∙◌, arith, inl, inr, Option, All}
use Rattle.std.specs.Prelude.{◌⊎◌, AllPairs, sum_by}
use Rattle.std.specs.List.{flat_map}
use Rattle.std.specs.Option.{option_map_or}
use Rattle.std.specs.Prelude.{slice_get}
use Rattle.std.proofs.lemmas.Bool.{cases_eq, cases_lt}
use Rattle.std.proofs.lemmas.List.{length-append, append_assoc, get_or_at}
use Rattle.std.proofs.lemmas.List.Elements.{All-cons, All-head, All-tail}
use Rattle.std.proofs.lemmas.List.FromFn.{length-map-range_with_len}
use Rattle.std.proofs.lemmas.List.Sums.{sum_by-cons}
use Rattle.std.proofs.lemmas.Option.{slice_get-get_or}
use Rattle.dataset_meta.specs.Metas.{MetaData, no_meta}
use Rattle.payload_layout.specs.Packing.{Packed, packs_of, pack_of, IsSound}
use Rattle.payload_layout.proofs.Packs.{packs-frames, packs-sound}
use Rattle.ps_config.specs.declared.parts.GroupPart.{GroupPart}
use Rattle.ps_config.specs.declared.parts.WriterPart.{WriterPart}
use Rattle.ps_config.specs.Rooms.{datagrams_in, datagrams_of, is_fixed, largest_frame}
use Rattle.writer_group.specs.declared.load.Load.TheVariants as loads
use Rattle.writer_group.specs.Answering.{AreAnswers, IsAnswerOf}
use Rattle.writer_group.specs.Payloads.{Spelled, meta_at, no_writer, size_of, writer_at}
use Rattle.writer_group.specs.Planning.{chunk_count, loads_from, pack_loads, planned}
use Rattle.writer_group.proofs.Cutting.{chunk-more, chunk-some}
use Rattle.writer_group.proofs.LoadPayloads.{first-size, planned-sized, rest-of}

-- ---- a frame needs as many datagrams as it has chunks

abbrev pub needs : ℕ → List Spelled → ℕ
needs room [] = 0
needs room (frame ∷ frames) = chunk_count room (size_of frame) + needs room frames

needs-append : (room : ℕ) (xs ys : List Spelled) → needs room (xs ++ ys) ≡ needs room xs + needs room ys
needs-append room [] ys = omega arith
needs-append room (x ∷ xs) ys = omega (arith, needs-append room xs ys)

abbrev pub HasByte : Spelled → Type 0
HasByte frame = 1 ≤ size_of frame

needs-some : (room : ℕ) (frames : List Spelled) → 1 ≤ room → 0 < length frames → All HasByte frames → 1 ≤ needs room frames
needs-some room [] some has each = absurd (omega arith)
needs-some room (frame ∷ frames) some has each = omega (arith, chunk-some room (size_of frame) some (All-head HasByte frame frames each))

pack-needs : (frames : List Spelled) (room chunk_room first : ℕ) (mine rest : List Spelled) (cut : Bool) → 1 ≤ chunk_room → All HasByte mine
    → IsSound size_of room (record { frames = mine; cut = cut }) → drop first frames ≡ mine ++ rest
    → length (pack_loads chunk_room first (record { count = length mine; chunked = cut }) (get_or (map size_of frames) first 0)) ≤ needs chunk_room mine
pack-needs frames room chunk_room first mine rest false some each sound is = needs-some chunk_room mine some sound.some each
pack-needs frames room chunk_room first mine rest true some each sound is =
    let one = sound.alone refl in
    let frame = one.0 in
    let size : get_or (map size_of frames) first 0 ≡ size_of frame = first-size frames first frame rest (is ∙ ap (λ (l : List Spelled). l ++ rest) one.1) in
    let same : needs chunk_room mine ≡ needs chunk_room (frame ∷ []) = ap (needs chunk_room) one.1 in
    omega (
      arith,
      same,
      length-map-range_with_len (loads.Chunk first) 0 (chunk_count chunk_room (get_or (map size_of frames) first 0)),
      ap (chunk_count chunk_room) size,
    )

pub each-left : (xs ys : List Spelled) → All HasByte (xs ++ ys) → All HasByte xs × All HasByte ys
each-left [] ys each = (λ k d within. absurd (omega arith), each)
each-left (x ∷ xs) ys each =
    let rest = each-left xs ys (All-tail HasByte x (xs ++ ys) each) in
    (All-cons HasByte x xs (All-head HasByte x (xs ++ ys) each) rest.0, rest.1)

loads-need : (frames : List Spelled) (room chunk_room first : ℕ) (packs : List (Packed Spelled)) → 1 ≤ chunk_room
    → All HasByte (flat_map (λ (pack : Packed Spelled). pack.frames) packs) → All (IsSound size_of room) packs
    → drop first frames ≡ flat_map (λ (pack : Packed Spelled). pack.frames) packs
    → length (loads_from chunk_room (map size_of frames) first (map pack_of packs)) ≤ needs chunk_room (flat_map (λ (pack : Packed Spelled). pack.frames) packs)
loads-need frames room chunk_room first [] some each sound is = omega arith
loads-need frames room chunk_room first (pack ∷ packs) some each sound is =
    let rest = flat_map (λ (p : Packed Spelled). p.frames) packs in
    let halves = each-left pack.frames rest each in
    omega (
      arith,
      length-append (pack_loads chunk_room first (pack_of pack) (get_or (map size_of frames) first 0)) (loads_from chunk_room (map size_of frames) (first + length pack.frames) (map pack_of packs)),
      needs-append chunk_room pack.frames rest,
      pack-needs frames room chunk_room first pack.frames rest pack.cut some halves.0 (All-head (IsSound size_of room) pack packs sound) is,
      loads-need frames room chunk_room (first + length pack.frames) packs some halves.1 (All-tail (IsSound size_of room) pack packs sound) (rest-of frames first pack.frames rest is),
    )

pub planned-need : (frames : List Spelled) (room chunk_room : ℕ) → 1 ≤ chunk_room → All HasByte frames
    → length (planned room chunk_room (map size_of frames)) ≤ needs chunk_room frames
planned-need frames room chunk_room some each =
    let packs = packs_of size_of room frames in
    let all : flat_map (λ (pack : Packed Spelled). pack.frames) packs ≡ frames = packs-frames size_of room frames in
    omega (
      arith,
      ap length (planned-sized room chunk_room frames),
      ap (needs chunk_room) all,
      loads-need frames room chunk_room 0 packs some (subst (All HasByte) (sym all) each) (packs-sound size_of room frames) (sym all),
    )

-- ---- frames of rising writers need no more than all writers

abbrev total : (ℕ → ℕ) → ℕ → ℕ → ℕ
total need from zero = 0
total need from (suc count) = need from + total need (from + 1) count

abbrev needed : (ℕ → ℕ) → List Spelled → ℕ
needed need [] = 0
needed need (frame ∷ frames) = need frame.writer + needed need frames

abbrev Rises : Spelled → Spelled → Type 0
Rises one other = one.writer < other.writer

record AreBetween (from end : ℕ) (frames : List Spelled) : Type 0 where
  pub least : All (λ (f : Spelled). from ≤ f.writer) frames
  pub most : All (λ (f : Spelled). f.writer < end) frames
  pub rise : AllPairs Rises frames

pairs-tail : (frame : Spelled) (frames : List Spelled) → AllPairs Rises (frame ∷ frames) → AllPairs Rises frames
pairs-tail frame frames rise i j d less within = rise (suc i) (suc j) d (omega arith) (omega arith)

pairs-head : (frame : Spelled) (frames : List Spelled) → AllPairs Rises (frame ∷ frames) → All (λ (f : Spelled). frame.writer < f.writer) frames
pairs-head frame frames rise k d within = rise zero (suc k) d (omega arith) (omega arith)

between-head : (from end : ℕ) (frame : Spelled) (frames : List Spelled) → AreBetween from end (frame ∷ frames) → (from ≤ frame.writer) × (frame.writer < end)
between-head from end frame frames are = (are.least zero frame (omega arith), are.most zero frame (omega arith))

between-tail : (from end : ℕ) (frame : Spelled) (frames : List Spelled) → frame.writer ≡ from → AreBetween from end (frame ∷ frames) → AreBetween (from + 1) end frames
between-tail from end frame frames own are = record {
  least = λ k d within. omega (arith, own, pairs-head frame frames are.rise k d within);
  most = All-tail (λ (f : Spelled). f.writer < end) frame frames are.most;
  rise = pairs-tail frame frames are.rise;
}

between-later : (from end : ℕ) (frame : Spelled) (frames : List Spelled) → from < frame.writer → AreBetween from end (frame ∷ frames) → AreBetween (from + 1) end (frame ∷ frames)
between-later from end frame frames above are = record { least = least; most = are.most; rise = are.rise }
  where
    least : All (λ (f : Spelled). from + 1 ≤ f.writer) (frame ∷ frames)
    least zero d within = omega arith
    least (suc k) d within = omega (arith, pairs-head frame frames are.rise k d (omega arith))

next-needed : (need : ℕ → ℕ) (from count : ℕ) (frame : Spelled) (frames : List Spelled) → AreBetween from (from + suc count) (frame ∷ frames)
    → ((fs : List Spelled) → AreBetween (from + 1) (from + 1 + count) fs → needed need fs ≤ total need (from + 1) count)
    → needed need (frame ∷ frames) ≤ total need from (suc count)
next-needed need from count frame frames are more = by_writer (cases_eq frame.writer from)
  where
    far : from + suc count ≡ from + 1 + count
    far = omega arith

    strictly : (frame.writer ≡ from → ⊥) → (from < frame.writer) ⊎ (frame.writer ≤ from) → from < frame.writer
    strictly differs (inl less) = less
    strictly differs (inr below) = absurd (differs (omega (arith, are.least zero frame (omega arith))))

    by_writer : (frame.writer ≡ from) ⊎ (frame.writer ≡ from → ⊥) → needed need (frame ∷ frames) ≤ total need from (suc count)
    by_writer (inl own) =
        let rest : AreBetween (from + 1) (from + 1 + count) frames = subst (λ (end : ℕ). AreBetween (from + 1) end frames) far (between-tail from (from + suc count) frame frames own are) in
        omega (arith, ap need own, more frames rest)
    by_writer (inr differs) =
        let above : from < frame.writer = strictly differs (cases_lt from frame.writer) in
        let rest : AreBetween (from + 1) (from + 1 + count) (frame ∷ frames) = subst (λ (end : ℕ). AreBetween (from + 1) end (frame ∷ frames)) far (between-later from (from + suc count) frame frames above are) in
        omega (arith, more (frame ∷ frames) rest)

needed-total : (need : ℕ → ℕ) (from count : ℕ) (frames : List Spelled) → AreBetween from (from + count) frames → needed need frames ≤ total need from count
needed-total need from count [] are = omega arith
needed-total need from zero (frame ∷ frames) are = let ends = between-head from (from + 0) frame frames are in absurd (omega (arith, ends.0, ends.1))
needed-total need from (suc count) (frame ∷ frames) are = next-needed need from count frame frames are (λ (fs : List Spelled) (rest : AreBetween (from + 1) (from + 1 + count) fs). needed-total need (from + 1) count fs rest)

total-writers : (need : WriterPart → ℕ) (d : WriterPart) (before writers : List WriterPart) → total (λ (w : ℕ). need (get_or (before ++ writers) w d)) (length before) (length writers) ≡ sum_by need writers
total-writers need d before [] = refl
total-writers need d before (writer ∷ writers) =
    let split : before ++ writer ∷ writers ≡ (before ++ writer ∷ []) ++ writers = sym (append_assoc before (writer ∷ []) writers) in
    let here : get_or (before ++ writer ∷ writers) (length before) d ≡ writer = get_or_at before writer writers d (length before) refl in
    let at : length before + 1 ≡ length (before ++ writer ∷ []) = omega (arith, length-append before (writer ∷ [])) in
    let rest : total (λ (w : ℕ). need (get_or (before ++ writer ∷ writers) w d)) (length before + 1) (length writers) ≡ sum_by need writers =
    ap (λ (l : List WriterPart). total (λ (w : ℕ). need (get_or l w d)) (length before + 1) (length writers)) split
    ∙ ap (λ (n : ℕ). total (λ (w : ℕ). need (get_or ((before ++ writer ∷ []) ++ writers) w d)) n (length writers)) at
    ∙ total-writers need d (before ++ writer ∷ []) writers in
    omega (arith, ap need here, rest, sum_by-cons need writer writers)

-- ---- as the configuration judges it

abbrev need_of : ℕ → GroupPart → List MetaData → ℕ → ℕ
need_of room part metas writer = datagrams_of room metas (writer_at part writer)

abbrev IsKnown : List MetaData → WriterPart → Type 0
IsKnown metas writer = writer.dataset < length metas

frame-needs : (room : ℕ) (part : GroupPart) (metas : List MetaData) (frame : Spelled) → 1 ≤ room → is_fixed part.layout ≡ false → IsKnown metas (writer_at part frame.writer) → IsAnswerOf part metas frame
    → chunk_count room (size_of frame) ≤ need_of room part metas frame.writer
frame-needs room part metas frame some dynamic known is =
    let writer = writer_at part frame.writer in
    let meta = meta_at part metas frame.writer in
    let largest : option_map_or largest_frame (slice_get metas writer.dataset) 0 ≡ largest_frame meta =
    ap (λ (o : Option MetaData). option_map_or largest_frame o 0) (slice_get-get_or metas writer.dataset no_meta known) in
    let shape : largest_frame meta + room - 1 ≡ largest_frame meta + (room - 1) = omega arith in
    let all : chunk_count room (largest_frame meta) ≡ need_of room part metas frame.writer =
    ap (λ (n : ℕ). n / room) shape ∙ ap (λ (n : ℕ). (n + (room - 1)) / room) (sym largest) in
    omega (arith, all, chunk-more room (size_of frame) (largest_frame meta) some (is.dynamic dynamic))

needs-needed : (room : ℕ) (part : GroupPart) (metas : List MetaData) (frames : List Spelled) → 1 ≤ room → is_fixed part.layout ≡ false
    → All (IsKnown metas) part.writer → All (λ (f : Spelled). f.writer < length part.writer) frames → All (IsAnswerOf part metas) frames
    → needs room frames ≤ needed (need_of room part metas) frames
needs-needed room part metas [] some dynamic known below each = omega arith
needs-needed room part metas (frame ∷ frames) some dynamic known below each =
    let here : IsKnown metas (writer_at part frame.writer) = known frame.writer no_writer (below zero frame (omega arith)) in
    omega (
      arith,
      frame-needs room part metas frame some dynamic here (All-head (IsAnswerOf part metas) frame frames each),
      needs-needed room part metas frames some dynamic known (All-tail (λ (f : Spelled). f.writer < length part.writer) frame frames below) (All-tail (IsAnswerOf part metas) frame frames each),
    )

pub needs-few : (room : ℕ) (part : GroupPart) (metas : List MetaData) (frames : List Spelled) → 1 ≤ room → is_fixed part.layout ≡ false
    → All (IsKnown metas) part.writer → AreAnswers part metas (length part.writer) frames → needs room frames ≤ datagrams_in room metas part.writer
needs-few room part metas frames some dynamic known are =
    let between : AreBetween 0 (0 + length part.writer) frames = record {
      least = λ k d within. omega arith;
      most = λ k d within. omega (arith, are.below k d within);
      rise = are.rise;
    } in
    omega (
      arith,
      needs-needed room part metas frames some dynamic known are.below are.each,
      needed-total (need_of room part metas) 0 (length part.writer) frames between,
      total-writers (datagrams_of room metas) no_writer [] part.writer,
    )
