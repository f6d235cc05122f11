-- The readers of all read groups by their indexes, and by their places.
use Rattle.std.proofs.Common.{◌≡◌, refl, sym, ap, ◌∙◌, ℕ, List, [], ◌∷◌, ◌++◌, length, map, get_or, flat_map, slice_get, Some}
use Rattle.std.specs.Prelude.{option_map}
use Rattle.std.specs.List.{range_with_len}
use Rattle.std.proofs.lemmas.List.{map-append}
use Rattle.std.proofs.lemmas.List.Folds.{flat_map-map}
use Rattle.std.proofs.lemmas.List.FromFn.{fill_by_all}
use Rattle.std.proofs.lemmas.Option.{slice_get-map}
use Rattle.std.proofs.Math.ListN as listn
use Rattle.ps_config.specs.declared.parts.Config.{Config}
use Rattle.ps_config.specs.declared.parts.ReadGroupPart.{ReadGroupPart}
use Rattle.ps_config.specs.declared.parts.ReaderPart.{ReaderPart}
use Rattle.ps_config.specs.Sound.{readers}
use Rattle.reader_group.specs.Members.{Seat, no_seat}
use Rattle.reader_group.specs.Settings as settings
use Rattle.reader_group.specs.Settings.{group_at, no_group, setting_of}
use Rattle.session_model.specs.Events.{reader_indexes, read_group_indexes}
use Rattle.session_model.specs.Closing.{MemberPlace, reader_places}
use Rattle.gateway_core.specs.Sources.{seat_in}

-- ---- lists

indexed : {X : Type 0} (xs : List X) (d : X) → map (λ i. get_or xs i d) (range_with_len 0 (length xs)) ≡ xs
indexed xs d = sym (fill_by_all (λ i. get_or xs i d) xs (length xs) d refl (λ k low. refl))

flat-same : {X Y : Type 0} (f g : X → List Y) → ((x : X) → f x ≡ g x) → (xs : List X) → flat_map f xs ≡ flat_map g xs
flat-same f g same [] = refl
flat-same f g same (x ∷ xs) = ap (λ l. l ++ flat_map f xs) (same x) ∙ ap (λ l. g x ++ l) (flat-same f g same xs)

map-flat : {X Y Z : Type 0} (F : X → List Y) (g : Y → Z) (xs : List X) → map g (flat_map F xs) ≡ flat_map (λ x. map g (F x)) xs
map-flat F g [] = refl
map-flat F g (x ∷ xs) = map-append g (F x) (flat_map F xs) ∙ ap (λ l. map g (F x) ++ l) (map-flat F g xs)

-- ---- the seats

-- the seat of a reader is of its own part
parts : (config : Config) (all : List ReaderPart) → map (λ (seat : Seat). seat.part) (map (settings.seat_in config) all) ≡ all
parts config [] = refl
parts config (part ∷ all) = ap (λ l. part ∷ l) (parts config all)

seat-part : (config : Config) (r i : ℕ) → (seat_in config (r, i)).part ≡ get_or (group_at config r).reader i no_seat.part
seat-part config r i =
    sym (listn.get_or-map (λ (seat : Seat). seat.part) (setting_of config r).seats i no_seat)
    ∙ ap (λ (all : List ReaderPart). get_or all i no_seat.part) (parts config (group_at config r).reader)

abbrev part-at : Config → MemberPlace → ReaderPart
part-at config place = (seat_in config place).part

of-group : (config : Config) (r : ℕ) → map (part-at config) (map (λ i. (r, i)) (reader_indexes config r)) ≡ (group_at config r).reader
of-group config r = all (reader_indexes config r) ∙ indexed (group_at config r).reader no_seat.part
  where
    all : (indexes : List ℕ) → map (part-at config) (map (λ i. (r, i)) indexes) ≡ map (λ i. get_or (group_at config r).reader i no_seat.part) indexes
    all [] = refl
    all (i ∷ indexes) =
        ap (λ (part : ReaderPart). part ∷ map (part-at config) (map (λ j. (r, j)) indexes)) (seat-part config r i)
        ∙ ap (λ l. get_or (group_at config r).reader i no_seat.part ∷ l) (all indexes)

-- the readers in order are those of the places in order
pub parts-by-place : (config : Config) → map (λ place. (seat_in config place).part) (reader_places config) ≡ readers config
parts-by-place config =
    map-flat (λ r. map (λ i. (r, i)) (reader_indexes config r)) (part-at config) (read_group_indexes config)
    ∙ flat-same (λ r. map (part-at config) (map (λ i. (r, i)) (reader_indexes config r))) (λ r. (group_at config r).reader) (of-group config) (read_group_indexes config)
    ∙ sym (flat_map-map (λ (group : ReadGroupPart). group.reader) (group_at config) (read_group_indexes config))
    ∙ ap (λ (groups : List ReadGroupPart). flat_map (λ group. group.reader) groups) (indexed config.readgroup no_group)

-- the reader with this index has the part of its place
pub part-there : (config : Config) (k : ℕ) (place : MemberPlace) → slice_get (reader_places config) k ≡ Some place → slice_get (readers config) k ≡ Some (seat_in config place).part
part-there config k place at =
    ap (λ (l : List ReaderPart). slice_get l k) (sym (parts-by-place config))
    ∙ slice_get-map (λ place. (seat_in config place).part) (reader_places config) k
    ∙ ap (option_map (λ place. (seat_in config place).part)) at
