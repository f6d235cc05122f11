-- What a configuration has at the places of its writers and readers.
use Rattle.std.proofs.Common.{◌≡◌, refl, sym, ap, ◌∙◌, ℕ, ◌+◌, ◌<◌, List, [], ◌∷◌, ◌++◌, length, Some}
use Rattle.std.specs.Prelude.{map, flat_map, All, slice_get, option_map}
use Rattle.std.proofs.lemmas.List.{map-append, map-id}
use Rattle.std.proofs.lemmas.List.Folds.{flat_map-map}
use Rattle.std.proofs.lemmas.List.FromFn.{length-map-range_with_len}
use Rattle.std.proofs.lemmas.Option.{slice_get-map}
use Rattle.std.proofs.lemmas.Simd.{map-map}
use Rattle.ps_config.specs.declared.parts.Config.{Config}
use Rattle.ps_config.specs.declared.parts.GroupPart.{GroupPart}
use Rattle.ps_config.specs.declared.parts.ReadGroupPart.{ReadGroupPart}
use Rattle.ps_config.specs.declared.parts.ReaderPart.{ReaderPart}
use Rattle.ps_report.specs.Conditions.{readers_of, writers_of}
use Rattle.ps_report.specs.Told.{grouped_readers}
use Rattle.reader_group.specs.Settings.{group_at as read_group_at}
use Rattle.writer_group.specs.Parts.{group_at, no_group}
use Rattle.session_model.specs.Deeds.{group_indexes}
use Rattle.session_model.specs.Closing.{MemberPlace, reader_places, writer_places}
use Rattle.pubsub_engine.specs.Ending.{places_of_group}
use Rattle.pubsub_engine.specs.LifeEnds.{reader_in}
use Rattle.pubsub_engine.specs.Storing.{first_reader}
use Rattle.pubsub_engine.proofs.Places.{flat-lengths, grouped-places, indexed, place-at}
use Rattle.pubsub_engine.proofs.PlacesInOrder.{all-members}

-- ---- writers

pub writer-count : (config : Config) → length (writer_places config) ≡ length (writers_of config.group)
writer-count config =
    flat-lengths (places_of_group config) (λ g. (group_at config g).writer) (λ g. length-map-range_with_len (λ w. (g, w)) 0 (length (group_at config g).writer)) (group_indexes config)
    ∙ ap length (sym (flat_map-map (λ (group : GroupPart). group.writer) (group_at config) (group_indexes config)))
    ∙ ap (λ (groups : List GroupPart). length (flat_map (λ group. group.writer) groups)) (indexed config.group no_group)

-- ---- readers

abbrev pub IsPlace : Config → MemberPlace → Type 0
IsPlace config place = (place.0 < length config.readgroup) × (place.1 < length (read_group_at config place.0).reader)

pub are-places : (config : Config) → All (IsPlace config) (reader_places config)
are-places config = all-members (IsPlace config) (λ r. length (read_group_at config r).reader) (length config.readgroup) (λ r i low within. (low, within))

without-groups : (groups : List ReadGroupPart) → map (λ (at : ReadGroupPart × ReaderPart). at.1) (grouped_readers groups) ≡ readers_of groups
without-groups [] = refl
without-groups (group ∷ groups) =
    map-append (λ (at : ReadGroupPart × ReaderPart). at.1) (map (λ part. (group, part)) group.reader) (grouped_readers groups)
    ∙ ap (λ l. l ++ map (λ (at : ReadGroupPart × ReaderPart). at.1) (grouped_readers groups)) (map-map (λ (at : ReadGroupPart × ReaderPart). at.1) (λ (part : ReaderPart). (group, part)) group.reader ∙ map-id group.reader)
    ∙ ap (λ l. group.reader ++ l) (without-groups groups)

-- their parts in order
pub parts-by-place : (config : Config) → map (λ place. (reader_in config place).1) (reader_places config) ≡ readers_of config.readgroup
parts-by-place config =
    sym (map-map (λ (at : ReadGroupPart × ReaderPart). at.1) (reader_in config) (reader_places config))
    ∙ ap (map (λ (at : ReadGroupPart × ReaderPart). at.1)) (grouped-places config)
    ∙ without-groups config.readgroup

-- the reader that stands behind the readers of the read groups before its own, and behind those before it in this
pub reader-behind : (config : Config) (r i k : ℕ) → r < length config.readgroup → i < length (read_group_at config r).reader → k ≡ first_reader config r + i
    → slice_get (grouped_readers config.readgroup) k ≡ Some (reader_in config (r, i))
reader-behind config r i k low within is =
    ap (λ (l : List (ReadGroupPart × ReaderPart)). slice_get l k) (sym (grouped-places config))
    ∙ slice_get-map (reader_in config) (reader_places config) k
    ∙ ap (λ (n : ℕ). option_map (reader_in config) (slice_get (reader_places config) n)) is
    ∙ ap (option_map (reader_in config)) (place-at config r i low within)
