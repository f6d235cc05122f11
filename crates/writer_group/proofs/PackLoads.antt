-- The loads of packs, one pack after another.
use Rattle.std.proofs.Common.{◌≡◌, ℕ, zero, suc, ◌+◌, ◌<◌, ◌≤◌, Bool, true, List, [], ◌∷◌, ◌++◌, length, map, take, get_or, refl, sym, ap, ◌∙◌, append_assoc, append-nil, arith}
use Rattle.std.specs.Prelude.{slice_index_or, if◌then◌else◌, ◌==◌}
use Rattle.std.specs.List.{All, flat_map}
use Rattle.std.proofs.lemmas.Bool.Decides.{nat_tests}
use Rattle.std.proofs.lemmas.List.{length-append, take_more}
use Rattle.std.proofs.lemmas.List.Elements.{All-head, All-tail}
use Rattle.std.proofs.lemmas.List.FromFn.{length-map-range_with_len}
use Rattle.payload_layout.specs.declared.packing.Pack.{Pack}
use Rattle.payload_layout.specs.Packing.{Packed, packs_of, pack_of, IsSound}
use Rattle.payload_layout.proofs.Filled.{itself}
use Rattle.payload_layout.proofs.Packs.{packs-frames, packs-sound}
use Rattle.writer_group.specs.declared.load.Load.{Load}
use Rattle.writer_group.specs.declared.load.Load.TheVariants.{Chunk, Frames}
use Rattle.writer_group.specs.Planning.{chunk_count, chunk_loads, pack_loads, loads_from, planned}

-- how many frames packs have
abbrev pub counted : List Pack → ℕ
counted [] = 0
counted (pack ∷ packs) = pack.count + counted packs

abbrev pub loads_at : ℕ → List ℕ → ℕ → Pack → List Load
loads_at room sizes first pack = pack_loads room first pack (slice_index_or sizes first 0)

-- a frame that is cut has a load for each chunk
pub length-chunked : (room first : ℕ) (pack : Pack) (size : ℕ) → pack.chunked ≡ true → length (pack_loads room first pack size) ≡ chunk_count room size
length-chunked room first pack size is =
    ap (λ (cut : Bool). length (if cut then chunk_loads room first size else Frames first pack.count ∷ [])) is
    ∙ length-map-range_with_len (Chunk first) 0 (chunk_count room size)

-- the loads of one pack more
pub loads-push : (room : ℕ) (sizes : List ℕ) (first : ℕ) (packs : List Pack) (pack : Pack)
    → loads_from room sizes first (packs ++ pack ∷ []) ≡ loads_from room sizes first packs ++ loads_at room sizes (first + counted packs) pack
loads-push room sizes first [] pack =
    let here : first ≡ first + 0 = omega arith in
    append-nil (loads_at room sizes first pack) ∙ ap (λ (n : ℕ). loads_at room sizes n pack) here
loads-push room sizes first (p ∷ packs) pack =
    let far : first + p.count + counted packs ≡ first + (p.count + counted packs) = omega arith in
    let front = loads_at room sizes first p in
    let more = loads_from room sizes (first + p.count) packs in
    ap (λ (l : List Load). front ++ l) (loads-push room sizes (first + p.count) packs pack)
    ∙ sym (append_assoc front more (loads_at room sizes (first + p.count + counted packs) pack))
    ∙ ap (λ (n : ℕ). (front ++ more) ++ loads_at room sizes n pack) far

pub loads-more : (room : ℕ) (sizes : List ℕ) (packs : List Pack) (index : ℕ) (d : Pack) → index < length packs
    → loads_from room sizes 0 (take (index + 1) packs) ≡ loads_from room sizes 0 (take index packs) ++ loads_at room sizes (counted (take index packs)) (get_or packs index d)
loads-more room sizes packs index d within =
    let none : 0 + counted (take index packs) ≡ counted (take index packs) = omega arith in
    ap (loads_from room sizes 0) (take_more packs index d within) ∙ loads-push room sizes 0 (take index packs) (get_or packs index d)
    ∙ ap (λ (n : ℕ). loads_from room sizes 0 (take index packs) ++ loads_at room sizes n (get_or packs index d)) none

-- the loads of the first packs and of the next are no more than all
fewer-from : (room : ℕ) (sizes : List ℕ) (first : ℕ) (packs : List Pack) (index : ℕ) (d : Pack) → index < length packs
    → length (loads_from room sizes first (take index packs)) + length (loads_at room sizes (first + counted (take index packs)) (get_or packs index d)) ≤ length (loads_from room sizes first packs)
fewer-from room sizes first [] index d within = absurd (omega arith)
fewer-from room sizes first (pack ∷ packs) zero d within =
    let here : first + 0 ≡ first = omega arith in
    omega (
      arith,
      ap (λ (n : ℕ). length (loads_at room sizes n pack)) here,
      length-append (loads_at room sizes first pack) (loads_from room sizes (first + pack.count) packs),
    )
fewer-from room sizes first (pack ∷ packs) (suc index) d within =
    let far : first + (pack.count + counted (take index packs)) ≡ first + pack.count + counted (take index packs) = omega arith in
    omega (
      arith,
      ap (λ (n : ℕ). length (loads_at room sizes n (get_or packs index d))) far,
      length-append (loads_at room sizes first pack) (loads_from room sizes (first + pack.count) packs),
      length-append (loads_at room sizes first pack) (loads_from room sizes (first + pack.count) (take index packs)),
      fewer-from room sizes (first + pack.count) packs index d (omega arith),
    )

pub loads-fewer : (room : ℕ) (sizes : List ℕ) (packs : List Pack) (index : ℕ) (d : Pack) → index < length packs
    → length (loads_from room sizes 0 (take index packs)) + length (loads_at room sizes (counted (take index packs)) (get_or packs index d)) ≤ length (loads_from room sizes 0 packs)
loads-fewer room sizes packs index d within =
    let none : 0 + counted (take index packs) ≡ counted (take index packs) = omega arith in
    omega (
      arith,
      ap (λ (n : ℕ). length (loads_at room sizes n (get_or packs index d))) none,
      fewer-from room sizes 0 packs index d within,
    )

pub counted-more : (packs : List Pack) (index : ℕ) (d : Pack) → index < length packs → counted (take (index + 1) packs) ≡ counted (take index packs) + (get_or packs index d).count
counted-more packs index d within = ap counted (take_more packs index d within) ∙ counted-push (take index packs) (get_or packs index d)
  where
    counted-push : (xs : List Pack) (x : Pack) → counted (xs ++ x ∷ []) ≡ counted xs + x.count
    counted-push [] x = omega arith
    counted-push (y ∷ xs) x = omega (arith, counted-push xs x)

counted-take : (packs : List Pack) (index : ℕ) (d : Pack) → index < length packs → counted (take index packs) + (get_or packs index d).count ≤ counted packs
counted-take [] index d within = absurd (omega arith)
counted-take (pack ∷ packs) zero d within = omega arith
counted-take (pack ∷ packs) (suc index) d within = omega (arith, counted-take packs index d (omega arith))

counted-all : {X : Type 0} (packed : List (Packed X)) → counted (map pack_of packed) ≡ length (flat_map (λ (pack : Packed X). pack.frames) packed)
counted-all [] = refl
counted-all {X} (pack ∷ packed) = omega (arith, counted-all packed, length-append pack.frames (flat_map (λ (p : Packed X). p.frames) packed))

some-at : {X : Type 0} (size : X → ℕ) (room : ℕ) (packed : List (Packed X)) (index : ℕ) (d : Pack) → All (IsSound size room) packed → index < length (map pack_of packed)
    → 0 < (get_or (map pack_of packed) index d).count
some-at size room [] index d sound within = absurd (omega arith)
some-at size room (pack ∷ packed) zero d sound within =
    let first : IsSound size room pack = All-head (IsSound size room) pack packed sound in
    first.some
some-at size room (pack ∷ packed) (suc index) d sound within = some-at size room packed index d (All-tail (IsSound size room) pack packed sound) (omega arith)

-- what the packs of these sizes are: each begins and ends within them, and has a frame
pub record IsPackWithin (sizes : List ℕ) (packs : List Pack) (index : ℕ) (pack : Pack) : Type 0 where
  pub some : 0 < pack.count
  pub within : counted (take index packs) + pack.count ≤ length sizes

pub pack-within : (room : ℕ) (sizes : List ℕ) (packs : List Pack) (index : ℕ) (d : Pack) → packs ≡ map pack_of (packs_of itself room sizes) → index < length packs
    → IsPackWithin sizes packs index (get_or packs index d)
pack-within room sizes packs index d are within =
    let packed = packs_of itself room sizes in
    let all : counted packs ≡ length sizes = ap counted are ∙ counted-all packed ∙ ap length (packs-frames itself room sizes) in
    let below : index < length (map pack_of packed) = omega (arith, within, ap length are) in
    let some : 0 < (get_or packs index d).count = rw are (some-at itself room packed index d (packs-sound itself room sizes) below) in
    record { some = some; within = omega (arith, all, counted-take packs index d within) }

-- without frames there is no load
pub nothing-planned : (frame_room room : ℕ) (sizes : List ℕ) (loads : List Load) → loads ≡ [] → (length sizes == 0) ≡ true → loads ≡ planned frame_room room sizes
nothing-planned frame_room room [] loads empty none = empty
nothing-planned frame_room room (size ∷ sizes) loads empty none = absurd (grind (arith, nat_tests))
