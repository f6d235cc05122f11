-- Stores of what readers hold, whatever befell their read groups.
use Rattle.std.specs.Prelude.{◌≡◌, ◌⊎◌, ℕ, ◌<◌, ◌≤◌, true, false, List, [], ◌∷◌, length, map, flat_map, take, reverse, slice_get, slice_index_or, Some, Option, option_map}
use Rattle.std.specs.List.{HoldsAt}
use Rattle.dataset_meta.specs.Metas.{MetaData}
use Rattle.dataset_reader.specs.Kept.{Kept}
use Rattle.ps_config.specs.declared.parts.Config.{Config}
use Rattle.ps_config.specs.Sound.{readers}
use Rattle.reader_group.specs.declared.group.ReaderGroup.{ReaderGroup}
use Rattle.reader_group.specs.Members.{seat_at}
use Rattle.reader_group.specs.Plain.{member_at}
use Rattle.reader_group.specs.Settings.{setting_of}
use Rattle.target_cells.specs.Keeping.{TargetsData, metas_of}
use Rattle.row_words.specs.Belonging.{Belongs, row_in}
use Rattle.version_cell.specs.Histories.{row_after}
use Rattle.version_cell.specs.Known.{Known}
use Rattle.version_cell.specs.Sets.{ArePassesOf, pass_at}
use Rattle.session_model.specs.Closing.{MemberPlace, reader_places}
use Rattle.session_model.specs.Stores.{Store, held_by, stored_on}
use Rattle.session_model.specs.Readings.{Reading}
use Rattle.session_parts.specs.Standing.{HaveReadings}
use Rattle.pubsub_engine.specs.declared.storing.Last.{Last}
use Rattle.pubsub_engine.specs.declared.storing.Stores.{Stores}
use Rattle.pubsub_engine.specs.Holding.{AddsOneAtMost}

-- what a reader keeps, as a store
abbrev pub held_in : Kept → Option Store
held_in kept = option_map (λ row. record { number = kept.number; row = row }) kept.row

-- the targets are those of the readers, and each may have a store more
pub record MayStore (config : Config) (targets : TargetsData) (stores : Stores) : Type 0 where
  pub own : ArePassesOf targets.cells stores.keeper
  pub metas : map (λ cell. cell.meta) targets.cells ≡ metas_of config.dataset (map (λ reader. reader.dataset) (readers config))
  pub count : length stores.last.items ≡ length (readers config)
  pub room : (k : ℕ) → k < length (readers config) → length (pass_at stores.keeper k).seen < targets.limit

-- the last of these stores, if there is one, which left a row of these words
abbrev pub IsLast : List Store → MetaData → List ℕ → Last → Type 0
IsLast [] meta row last = last.is_there ≡ false
IsLast (store ∷ before) meta row last =
    (last.is_there ≡ true) × (last.number ≡ store.number) × (row_in meta.fields row ≡ store.row) × Belongs meta row

-- the keeper's pass has seen these stores, the first first
abbrev pub HasStored : List Store → MetaData → Known → Type 0
HasStored list meta pass = map (λ entry. row_in meta.fields entry.row) pass.seen ≡ map (λ store. store.row) (reverse list)

-- the reader with this index over all read groups has these stores
pub record IsStoredAs (meta : MetaData) (list : List Store) (s : Stores) (k : ℕ) : Type 0 where
  pub last : HoldsAt (IsLast list meta (row_after (pass_at s.keeper k).seen)) s.last.items k
  pub seen : HasStored list meta (pass_at s.keeper k)

abbrev pub meta_at_place : Config → MemberPlace → MetaData
meta_at_place config place = (seat_at (setting_of config place.0).seats place.1).meta

-- each reader has the stores that this gives for its place
abbrev pub HaveStored : Config → (MemberPlace → List Store) → Stores → Type 0
HaveStored config list s =
    (k : ℕ) (place : MemberPlace) → slice_get (reader_places config) k ≡ Some place → IsStoredAs (meta_at_place config place) (list place) s k

-- the stores of a reader once a pump ends, where the read groups stand so
abbrev pub stored_at : Config → (ℕ → Reading) → (MemberPlace → List Store) → MemberPlace → List Store
stored_at config readings list place =
    stored_on (seat_at (setting_of config place.0).seats place.1).part.numbering (list place)
    (held_by (member_at (readings place.0).value.members place.1))

-- ---- the stores of some readers, by their indexes over all read groups

-- how many readers the read groups before this one have
abbrev pub first_reader : Config → ℕ → ℕ
first_reader config r = length (flat_map (λ group. group.reader) (take r config.readgroup))

-- the targets are those of the readers, and each from this one on may have a store more
pub record MayStoreFrom (config : Config) (targets : TargetsData) (first : ℕ) (stores : Stores) : Type 0 where
  pub own : ArePassesOf targets.cells stores.keeper
  pub metas : map (λ cell. cell.meta) targets.cells ≡ metas_of config.dataset (map (λ reader. reader.dataset) (readers config))
  pub count : length stores.last.items ≡ length (readers config)
  pub room : (k : ℕ) → first ≤ k → k < length (readers config) → length (pass_at stores.keeper k).seen < targets.limit

-- the stores of this reader are as they were
pub record IsSameAt (old new : Stores) (k : ℕ) : Type 0 where
  pub pass : pass_at new.keeper k ≡ pass_at old.keeper k
  pub last : (d : Last) → slice_index_or new.last.items k d ≡ slice_index_or old.last.items k d

-- wherever the read groups stand, what the reader holds was stored, if it wasn't its last store
abbrev pub IsStoredOn : Config → List ReaderGroup → MemberPlace → Stores → Stores → ℕ → Type 0
IsStoredOn config groups place old new k =
    (readings : ℕ → Reading) (list : MemberPlace → List Store) → HaveReadings config readings groups
    → IsStoredAs (meta_at_place config place) (list place) old k
    → IsStoredAs (meta_at_place config place) (stored_at config readings list place) new k

-- so it is with each reader from one on and before another, and the stores of the others are as they were
pub record HaveStoredOn (config : Config) (groups : List ReaderGroup) (first next : ℕ) (old new : Stores) : Type 0 where
  pub adds : (k : ℕ) → first ≤ k → k < next → AddsOneAtMost (pass_at old.keeper k) (pass_at new.keeper k)
  pub others : (k : ℕ) → (k < first) ⊎ (next ≤ k) → IsSameAt old new k
  pub stored : (k : ℕ) (place : MemberPlace) → first ≤ k → k < next → slice_get (reader_places config) k ≡ Some place
      → IsStoredOn config groups place old new k
