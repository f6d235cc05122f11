-- The bytes of a turn's parts in memory: ids, sizes and frames from an index on.
use Rattle.std.proofs.Common.{◌≡◌, ℕ, zero, suc, ◌+◌, ◌-◌, ◌*◌, ◌<◌, ◌≤◌, List, [], ◌∷◌, ◌++◌, length, map, take, drop, get_or, refl, sym, ap, subst, ◌∙◌, arith}
use Rattle.std.specs.Prelude.{min, slice_range}
use Rattle.std.specs.Int.{w16, to_le_bytes}
use Rattle.std.specs.List.{flat_map}
use Rattle.std.proofs.lemmas.List.{append-nil, drop-map, get_or-map, length-drop, length-map, take-map, take_min, take_more}
use Rattle.std.proofs.lemmas.List.Concat.{flat_map-append}
use Rattle.std.proofs.lemmas.List.Folds.{flat_map-map, length-flat_map-take}
use Rattle.chunker.specs.Chunks.{cut_at}
use Rattle.chunker.specs.Joining.{chunk_of}
use Rattle.payload_layout.proofs.Laid.{length-sizes}
use Rattle.payload_layout.specs.Payloads.{sizes_bytes}
use Rattle.writer_group.specs.declared.spelled.Frames.{Frames}
use Rattle.writer_group.specs.declared.spelled.SpelledFrame.{SpelledFrame}
use Rattle.writer_group.specs.Holding.{AreSpelledIn, IsWithin, all_bytes, frames_at, id_bytes, listed, listed_ids, listed_sizes, no_frame, spelled_at}
use Rattle.writer_group.specs.Payloads.{Spelled, frames_payload, size_of}

abbrev pub no_spelled : SpelledFrame
no_spelled = record { writer = 0; id = 0; number = 0; start = 0; end = 0 }

-- ---- two bytes each

abbrev ids_in : List ℕ → List ℕ
ids_in ids = flat_map (to_le_bytes w16) ids

drop-pairs : (first : ℕ) (ids : List ℕ) → drop (2 * first) (ids_in ids) ≡ ids_in (drop first ids)
drop-pairs zero ids = refl
drop-pairs (suc first) [] = by_count (2 * suc first)
  where
    by_count : (n : ℕ) → drop {A = ℕ} n [] ≡ []
    by_count zero = refl
    by_count (suc n) = refl
drop-pairs (suc first) (id ∷ ids) =
    let two : 2 * suc first ≡ suc (suc (2 * first)) = omega arith in
    ap (λ (n : ℕ). drop n (ids_in (id ∷ ids))) two ∙ drop-pairs first ids

take-pairs : (count : ℕ) (ids : List ℕ) → take (2 * count) (ids_in ids) ≡ ids_in (take count ids)
take-pairs zero ids = refl
take-pairs (suc count) [] = by_count (2 * suc count)
  where
    by_count : (n : ℕ) → take {A = ℕ} n [] ≡ []
    by_count zero = refl
    by_count (suc n) = refl
take-pairs (suc count) (id ∷ ids) =
    let two : 2 * suc count ≡ suc (suc (2 * count)) = omega arith in
    ap (λ (n : ℕ). take n (ids_in (id ∷ ids))) two ∙ ap (λ (l : List ℕ). to_le_bytes w16 id ++ l) (take-pairs count ids)

pub pairs-range : (ids : List ℕ) (first count : ℕ) → slice_range (ids_in ids) (2 * first) (2 * first + 2 * count) ≡ ids_in (take count (drop first ids))
pairs-range ids first count =
    let size : 2 * first + 2 * count - 2 * first ≡ 2 * count = omega arith in
    ap (λ (n : ℕ). take n (drop (2 * first) (ids_in ids))) size ∙ ap (take (2 * count)) (drop-pairs first ids) ∙ take-pairs count (drop first ids)

-- ---- a part of a list

pub part-map : {A B : Type 0} (f : A → B) (xs : List A) (first count : ℕ) → take count (drop first (map f xs)) ≡ map f (take count (drop first xs))
part-map f xs first count = ap (take count) (drop-map f first xs) ∙ take-map f count (drop first xs)

pub part-range : {A : Type 0} (xs : List A) (first count end : ℕ) → end ≡ first + count → slice_range xs first end ≡ take count (drop first xs)
part-range xs first count end is =
    let size : end - first ≡ count = omega arith in
    ap (λ (n : ℕ). take n (drop first xs)) size

-- ---- the ids and the sizes of frames

pub length-ids : (bytes : List ℕ) (frames : Frames) → AreSpelledIn bytes frames → length (listed_ids frames) ≡ 2 * length (listed frames)
length-ids bytes frames are =
    ap length are.ids ∙ length-sizes (map (λ (f : Spelled). f.id) (frames_at bytes frames))
    ∙ ap (λ (n : ℕ). 2 * n) (length-map (frames_at bytes frames) (λ (f : Spelled). f.id) ∙ length-map (listed frames) (spelled_at bytes))

pub ids-range : (bytes : List ℕ) (frames : Frames) (first count : ℕ) → AreSpelledIn bytes frames
    → slice_range (listed_ids frames) (2 * first) (2 * first + 2 * count) ≡ id_bytes (take count (drop first (frames_at bytes frames)))
ids-range bytes frames first count are =
    ap (λ (l : List ℕ). slice_range l (2 * first) (2 * first + 2 * count)) are.ids
    ∙ pairs-range (map (λ (f : Spelled). f.id) (frames_at bytes frames)) first count
    ∙ ap ids_in (part-map (λ (f : Spelled). f.id) (frames_at bytes frames) first count)

-- what is read of them, by numbers that are these
pub ids-read : (bytes : List ℕ) (frames : Frames) (read : List ℕ) (f n first count : ℕ) → AreSpelledIn bytes frames → read ≡ listed_ids frames → f ≡ first → n ≡ count
    → slice_range read (2 * f) (2 * f + 2 * n) ≡ id_bytes (take count (drop first (frames_at bytes frames)))
ids-read bytes frames read f n first count are is one two =
    ap (λ (l : List ℕ). slice_range l (2 * f) (2 * f + 2 * n)) is
    ∙ ap (λ (m : ℕ). slice_range (listed_ids frames) (2 * m) (2 * m + 2 * n)) one
    ∙ ap (λ (m : ℕ). slice_range (listed_ids frames) (2 * first) (2 * first + 2 * m)) two
    ∙ ids-range bytes frames first count are

pub length-id_bytes : (frames : List Spelled) → length (id_bytes frames) ≡ 2 * length frames
length-id_bytes frames = length-sizes (map (λ (f : Spelled). f.id) frames) ∙ ap (λ (n : ℕ). 2 * n) (length-map frames (λ (f : Spelled). f.id))

pub sizes-range : (bytes : List ℕ) (frames : Frames) (first count end : ℕ) → AreSpelledIn bytes frames → end ≡ first + count
    → slice_range (listed_sizes frames) first end ≡ map size_of (take count (drop first (frames_at bytes frames)))
sizes-range bytes frames first count end are is =
    part-range (listed_sizes frames) first count end is ∙ ap (λ (l : List ℕ). take count (drop first l)) are.sizes
    ∙ part-map size_of (frames_at bytes frames) first count

pub sizes-read : (bytes : List ℕ) (frames : Frames) (read : List ℕ) (f n first count : ℕ) → AreSpelledIn bytes frames → read ≡ listed_sizes frames → f ≡ first → n ≡ count
    → slice_range read f (f + n) ≡ map size_of (take count (drop first (frames_at bytes frames)))
sizes-read bytes frames read f n first count are is one two =
    ap (λ (l : List ℕ). slice_range l f (f + n)) is
    ∙ ap (λ (m : ℕ). slice_range (listed_sizes frames) m (m + n)) one
    ∙ ap (λ (m : ℕ). slice_range (listed_sizes frames) first (first + m)) two
    ∙ sizes-range bytes frames first count (first + count) are refl

pub texts-read : (bytes : List ℕ) (list : List SpelledFrame) (read : List ℕ) (f n first count : ℕ) → all_bytes bytes (take n (drop f list)) ≡ read → f ≡ first → n ≡ count
    → read ≡ all_bytes bytes (take count (drop first list))
texts-read bytes list read f n first count is one two =
    sym is ∙ ap (λ (m : ℕ). all_bytes bytes (take n (drop m list))) one ∙ ap (λ (m : ℕ). all_bytes bytes (take m (drop first list))) two

-- ---- one frame

pub frame-spelled : (bytes : List ℕ) (list : List SpelledFrame) (index : ℕ) (frame d : SpelledFrame) → index < length list → frame ≡ get_or list index d
    → spelled_at bytes frame ≡ get_or (map (spelled_at bytes) list) index no_frame
frame-spelled bytes list index frame d within is = ap (spelled_at bytes) is ∙ sym (get_or-map (spelled_at bytes) list index d no_frame within)

pub frame-within : (bytes : List ℕ) (frames : Frames) (index : ℕ) (frame d : SpelledFrame) → AreSpelledIn bytes frames → index < length (listed frames) → frame ≡ get_or (listed frames) index d
    → IsWithin (length bytes) frame
frame-within bytes frames index frame d are within is =
    let at : IsWithin frames.end (get_or (listed frames) index d) = are.within index d within in
    let own : IsWithin frames.end frame = subst (IsWithin frames.end) (sym is) at in
    record { rising = own.rising; within = omega (arith, own.within, are.end_within) }

-- ---- frames one behind another

abbrev pub text_at : List ℕ → SpelledFrame → List ℕ
text_at bytes frame = (spelled_at bytes frame).bytes

pub texts-more : (bytes : List ℕ) (list : List SpelledFrame) (index : ℕ) (d : SpelledFrame) → index < length list
    → flat_map (text_at bytes) (take (index + 1) list) ≡ flat_map (text_at bytes) (take index list) ++ text_at bytes (get_or list index d)
texts-more bytes list index d within =
    ap (flat_map (text_at bytes)) (take_more list index d within)
    ∙ flat_map-append (text_at bytes) (take index list) (get_or list index d ∷ [])
    ∙ ap (λ (l : List ℕ). flat_map (text_at bytes) (take index list) ++ l) (append-nil (text_at bytes (get_or list index d)))

pub texts-fewer : (bytes : List ℕ) (list : List SpelledFrame) (index : ℕ) (d : SpelledFrame) → index < length list
    → length (flat_map (text_at bytes) (take index list)) + length (text_at bytes (get_or list index d)) ≤ length (flat_map (text_at bytes) list)
texts-fewer bytes list index d within = length-flat_map-take (text_at bytes) list index d within

-- the payload of the frames from an index on
pub payload-is : (bytes : List ℕ) (list : List SpelledFrame) (first count : ℕ)
    → (frames_payload (take count (drop first (map (spelled_at bytes) list)))).1
    ≡ sizes_bytes (map size_of (take count (drop first (map (spelled_at bytes) list)))) ++ flat_map (text_at bytes) (take count (drop first list))
payload-is bytes list first count =
    let mine = take count (drop first (map (spelled_at bytes) list)) in
    let part = take count (drop first list) in
    let same : mine ≡ map (spelled_at bytes) part = part-map (spelled_at bytes) list first count in
    let sizes : map length (map (λ (f : Spelled). f.bytes) mine) ≡ map size_of mine = twice mine in
    let texts : flat_map (λ (b : List ℕ). b) (map (λ (f : Spelled). f.bytes) mine) ≡ flat_map (text_at bytes) part =
    ap (λ (l : List Spelled). flat_map (λ (b : List ℕ). b) (map (λ (f : Spelled). f.bytes) l)) same
    ∙ flat_map-map (λ (b : List ℕ). b) (λ (f : Spelled). f.bytes) (map (spelled_at bytes) part)
    ∙ flat_map-map (λ (f : Spelled). f.bytes) (spelled_at bytes) part in
    ap (λ (l : List ℕ). sizes_bytes l ++ flat_map (λ (b : List ℕ). b) (map (λ (f : Spelled). f.bytes) mine)) sizes
    ∙ ap (λ (l : List ℕ). sizes_bytes (map size_of mine) ++ l) texts
  where
    twice : (xs : List Spelled) → map length (map (λ (f : Spelled). f.bytes) xs) ≡ map size_of xs
    twice [] = refl
    twice (x ∷ xs) = ap (λ (l : List ℕ). size_of x ∷ l) (twice xs)

-- ---- a chunk

pub chunk-read : (room number index offset len total : ℕ) (message part : List ℕ) → offset ≡ index * room → len ≡ min room (total - index * room) → total ≡ length message
    → part ≡ slice_range message offset (offset + len) → chunk_of number offset total part ≡ cut_at room number message index
chunk-read room number index offset len total message part first long all is =
    let at : ℕ = index * room in
    let size : offset + len - offset ≡ min room (total - at) = omega (arith, long) in
    let left : total - at ≡ length (drop at message) = omega (arith, all, length-drop at message) in
    let bytes : part ≡ take room (drop at message) =
    is ∙ ap (λ (n : ℕ). take n (drop offset message)) size ∙ ap (λ (n : ℕ). take (min room (total - at)) (drop n message)) first
    ∙ ap (λ (n : ℕ). take (min room n) (drop at message)) left ∙ take_min room (drop at message) in
    ap (λ (n : ℕ). chunk_of number n total part) first ∙ ap (λ (n : ℕ). chunk_of number at n part) all
    ∙ ap (λ (l : List ℕ). chunk_of number at (length message) l) bytes
