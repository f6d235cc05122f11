-- The readers of all read groups by their indexes.
use Rattle.std.proofs.Common.{◌≡◌, refl, sym, ap, ◌∙◌, subst, arith, ℕ, ◌+◌, ◌<◌, ◌≤◌, List, [], ◌∷◌, ◌++◌, length, map, take, get_or, flat_map, slice_get, Some, length-append, zero-add}
use Rattle.std.specs.List.{range_with_len}
use Rattle.std.proofs.lemmas.List.{take-map, take_more, take_all}
use Rattle.std.proofs.lemmas.List.Concat.{flat_map-append, get_or-flat_map}
use Rattle.std.proofs.lemmas.List.Folds.{flat_map-map, length-flat_map-take}
use Rattle.std.proofs.lemmas.List.FromFn.{fill_by_all, length-range_with_len, length-map-range_with_len, get_or-range_with_len, get_or-map-range_with_len}
use Rattle.std.proofs.lemmas.Option.{slice_get-get_or, slice_get_within}
use Rattle.std.proofs.Math.ListN as listn
use Rattle.ps_config.specs.declared.parts.Config.{Config}
use Rattle.ps_config.specs.declared.parts.ReadGroupPart.{ReadGroupPart}
use Rattle.ps_config.specs.declared.parts.ReaderPart.{ReaderPart}
use Rattle.ps_config.specs.Sound.{readers}
use Rattle.ps_config.proofs.Distinct.{map_flat}
use Rattle.ps_report.specs.Told.{grouped_readers}
use Rattle.reader_group.specs.Members.{Seat, no_seat, seat_at}
use Rattle.reader_group.specs.Settings.{group_at, no_group, seat_in, setting_of}
use Rattle.writer_group.specs.Standing.{IsGood}
use Rattle.session_model.specs.Events.{reader_indexes, read_group_indexes}
use Rattle.session_model.specs.Closing.{MemberPlace, reader_places}
use Rattle.pubsub_engine.specs.Storing.{first_reader}

-- ---- lists

pub indexed : {X : Type 0} (xs : List X) (d : X) → map (λ i. get_or xs i d) (range_with_len 0 (length xs)) ≡ xs
indexed xs d = sym (fill_by_all (λ i. get_or xs i d) xs (length xs) d refl (λ k low. refl))

pub flat-same : {X Y : Type 0} (f g : X → List Y) → ((x : X) → f x ≡ g x) → (xs : List X) → flat_map f xs ≡ flat_map g xs
flat-same f g same [] = refl
flat-same f g same (x ∷ xs) = ap (λ l. l ++ flat_map f xs) (same x) ∙ ap (λ l. g x ++ l) (flat-same f g same xs)

pub flat-lengths : {X Y Z : Type 0} (f : X → List Y) (g : X → List Z) → ((x : X) → length (f x) ≡ length (g x)) → (xs : List X) → length (flat_map f xs) ≡ length (flat_map g xs)
flat-lengths f g same [] = refl
flat-lengths f g same (x ∷ xs) =
    length-append (f x) (flat_map f xs) ∙ ap (λ n. n + length (flat_map f xs)) (same x) ∙ ap (λ n. length (g x) + n) (flat-lengths f g same xs)
    ∙ sym (length-append (g x) (flat_map g xs))

-- ---- the places of the readers

-- the places of the readers of a read group
abbrev pub places_in : Config → ℕ → List MemberPlace
places_in config r = map (λ i. (r, i)) (reader_indexes config r)

-- so many are in the read groups before one
before : (config : Config) (r : ℕ) → length (flat_map (places_in config) (take r (read_group_indexes config))) ≡ first_reader config r
before config r =
    flat-lengths (places_in config) (λ s. (group_at config s).reader) (λ s. length-map-range_with_len (λ i. (s, i)) 0 (length (group_at config s).reader)) (take r (read_group_indexes config))
    ∙ ap length (sym (flat_map-map (λ (group : ReadGroupPart). group.reader) (group_at config) (take r (read_group_indexes config))))
    ∙ ap (λ (groups : List ReadGroupPart). length (flat_map (λ group. group.reader) groups))
    (sym (take-map (group_at config) r (read_group_indexes config)) ∙ ap (take r) (indexed config.readgroup no_group))

-- the reader with this index in a read group has this place
pub place-at : (config : Config) (r i : ℕ) → r < length config.readgroup → i < length (group_at config r).reader
    → slice_get (reader_places config) (first_reader config r + i) ≡ Some (r, i)
place-at config r i there within =
    ap (slice_get (reader_places config)) (ap (λ n. n + i) (sym (before config r)))
    ∙ slice_get-get_or (reader_places config) (start + i) (0, 0) low
    ∙ ap Some (get_or-flat_map (places_in config) indexes r i 0 (0, 0) r-low (subst (λ s. i < length (places_in config s)) (sym at-r) i-low)
    ∙ ap (λ s. get_or (places_in config s) i (0, 0)) at-r
    ∙ get_or-map-range_with_len (λ j. (r, j)) 0 (length (group_at config r).reader) i i (0, 0) within (zero-add i))
  where
    indexes : List ℕ
    indexes = read_group_indexes config

    start : ℕ
    start = length (flat_map (places_in config) (take r indexes))

    r-low : r < length indexes
    r-low = subst (λ n. r < n) (sym (length-range_with_len 0 (length config.readgroup))) there

    at-r : get_or indexes r 0 ≡ r
    at-r = get_or-range_with_len 0 (length config.readgroup) r 0 there ∙ zero-add r

    i-low : i < length (places_in config r)
    i-low = subst (λ n. i < n) (sym (length-map-range_with_len (λ j. (r, j)) 0 (length (group_at config r).reader))) within

    low : start + i < length (reader_places config)
    low =
        let fits = length-flat_map-take (places_in config) indexes r 0 r-low in
        let same : length (places_in config (get_or indexes r 0)) ≡ length (places_in config r) = ap (λ s. length (places_in config s)) at-r in
        omega (arith, fits, same, i-low)

-- ---- the readers themselves

-- one read group more
pub first-more : (config : Config) (r : ℕ) → r < length config.readgroup → first_reader config (r + 1) ≡ first_reader config r + length (group_at config r).reader
first-more config r there =
    ap (λ (groups : List ReadGroupPart). length (flat_map (λ group. group.reader) groups)) (take_more config.readgroup r no_group there)
    ∙ ap length (flat_map-append (λ (group : ReadGroupPart). group.reader) (take r config.readgroup) (group_at config r ∷ []))
    ∙ length-append (flat_map (λ group. group.reader) (take r config.readgroup)) (flat_map (λ group. group.reader) (group_at config r ∷ []))
    ∙ ap (λ n. first_reader config r + n) (length-append (group_at config r).reader [] ∙ (omega arith))

pub first-all : (config : Config) → first_reader config (length config.readgroup) ≡ length (readers config)
first-all config = ap (λ (groups : List ReadGroupPart). length (flat_map (λ group. group.reader) groups)) (take_all (length config.readgroup) config.readgroup (omega arith))

pub first-within : (config : Config) (r i : ℕ) → r < length config.readgroup → i < length (group_at config r).reader → first_reader config r + i < length (readers config)
first-within config r i there within =
    let fits = length-flat_map-take (λ (group : ReadGroupPart). group.reader) config.readgroup r no_group there in
    omega (arith, fits, within)

pub few-readers : (config : Config) → IsGood config → length (readers config) ≤ 16
few-readers config good = good.sound.few.readers

-- so many are in the read groups up to one
pub first-most : (config : Config) (r : ℕ) → r < length config.readgroup → first_reader config r + length (group_at config r).reader ≤ length (readers config)
first-most config r there = length-flat_map-take (λ (group : ReadGroupPart). group.reader) config.readgroup r no_group there

-- the reader with this index in a read group
pub reader-at : (config : Config) (r i : ℕ) (d : ReaderPart) → r < length config.readgroup → i < length (group_at config r).reader
    → get_or (readers config) (first_reader config r + i) d ≡ get_or (group_at config r).reader i d
reader-at config r i d there within = get_or-flat_map (λ (group : ReadGroupPart). group.reader) config.readgroup r i no_group d there within

-- the seat of a reader is of its own part
parts : (config : Config) (group : ReadGroupPart) → map (λ (seat : Seat). seat.part) (map (seat_in config) group.reader) ≡ group.reader
parts config group = same group.reader
  where
    same : (all : List ReaderPart) → map (λ (seat : Seat). seat.part) (map (seat_in config) all) ≡ all
    same [] = refl
    same (part ∷ all) = ap (λ l. part ∷ l) (same all)

pub seat-part : (config : Config) (r i : ℕ) → (seat_at (setting_of config r).seats i).part ≡ get_or (group_at config r).reader i no_seat.part
seat-part config r i =
    sym (listn.get_or-map (λ (seat : Seat). seat.part) (setting_of config r).seats i no_seat)
    ∙ ap (λ (all : List ReaderPart). get_or all i no_seat.part) (parts config (group_at config r))

-- a reader behind its read group, by its place
abbrev pub grouped_at : Config → MemberPlace → ReadGroupPart × ReaderPart
grouped_at config place = (group_at config place.0, (seat_at (setting_of config place.0).seats place.1).part)

grouped-in : (config : Config) (r : ℕ) → map (grouped_at config) (places_in config r) ≡ map (λ part. (group_at config r, part)) (group_at config r).reader
grouped-in config r = all (reader_indexes config r) ∙ ap (map (λ part. (group_at config r, part))) (indexed (group_at config r).reader no_seat.part)
  where
    all : (indexes : List ℕ) → map (grouped_at config) (map (λ i. (r, i)) indexes)
        ≡ map (λ part. (group_at config r, part)) (map (λ i. get_or (group_at config r).reader i no_seat.part) indexes)
    all [] = refl
    all (i ∷ indexes) = ap (λ (part : ReaderPart). (group_at config r, part) ∷ map (grouped_at config) (map (λ j. (r, j)) indexes)) (seat-part config r i)
        ∙ ap (λ l. (group_at config r, get_or (group_at config r).reader i no_seat.part) ∷ l) (all indexes)

-- the readers in order, each behind its read group, are those of the places in order
pub grouped-places : (config : Config) → map (grouped_at config) (reader_places config) ≡ grouped_readers config.readgroup
grouped-places config =
    sym (map_flat (places_in config) (grouped_at config) (read_group_indexes config))
    ∙ flat-same (λ r. map (grouped_at config) (places_in config r)) (λ r. map (λ part. (group_at config r, part)) (group_at config r).reader) (grouped-in config) (read_group_indexes config)
    ∙ sym (flat_map-map (λ (group : ReadGroupPart). map (λ part. (group, part)) group.reader) (group_at config) (read_group_indexes config))
    ∙ ap (flat_map (λ (group : ReadGroupPart). map (λ part. (group, part)) group.reader)) (indexed config.readgroup no_group)

-- there are as many places as readers
pub within-all : (config : Config) (k : ℕ) (place : MemberPlace) → slice_get (reader_places config) k ≡ Some place → k < length (readers config)
within-all config k place at = let low : k < length (reader_places config) = slice_get_within (reader_places config) k place at in omega (arith, low, as-many)
  where
    as-many : length (reader_places config) ≡ length (readers config)
    as-many =
        sym (ap (λ (l : List ℕ). length (flat_map (places_in config) l)) (take_all (length config.readgroup) (read_group_indexes config) (let e = length-range_with_len 0 (length config.readgroup) in omega (arith, e))))
        ∙ before config (length config.readgroup) ∙ first-all config
