-- A group in its lane.
use Rattle.std.specs.Prelude.{◌≡◌, ⊤, ℕ, ◌+◌, ◌≤◌, true, false, List, [], ◌∷◌, ◌++◌, length, map, Option, Some, None}
use Rattle.std.specs.List.{range_with_len}
use Rattle.std.specs.Option.{option_map_or}
use Rattle.dataset_meta.specs.Metas.{MetaData}
use Rattle.ps_config.specs.declared.parts.Config.{Config}
use Rattle.ps_config.specs.declared.parts.GroupPart.{GroupPart}
use Rattle.writer_group.specs.declared.group.Group.{Group}
use Rattle.writer_group.specs.Limits.{most_datagrams}
use Rattle.writer_group.specs.Parts.{group_at}
use Rattle.writer_group.specs.Standing.{IsGroup, IsMadeFor, IsReserved, KeepsLogs, KeepsOnLogging, MayGoOn, datagrams_in, index_of, metas_for}
use Rattle.writer_group.specs.Turns.{GroupDeed}
use Rattle.session_model.specs.Deeds.{Deed, group_past, refreshed_where, shares}
use Rattle.group_threads.specs.Pairs.{Pair}
use Rattle.lane_groups.specs.declared.place.Place.{Place}

-- datagrams with their group
abbrev pub pairs_of : ℕ → List (List ℕ) → List Pair
pairs_of g datagrams = map (λ datagram. record { group = g; datagram = datagram }) datagrams

abbrev pub pairs_in : ℕ → Option Place → List Pair
pairs_in g None = []
pairs_in g (Some place) = pairs_of g (datagrams_in place.out)

-- those of the groups from this index on, in order
abbrev pub pairs_from : ℕ → List (Option Place) → List Pair
pairs_from g [] = []
pairs_from g (place ∷ places) = pairs_in g place ++ pairs_from (g + 1) places

-- its datagrams can be read
pub record IsShown (place : Place) : Type 0 where
  pub reserved : IsReserved place.out
  pub count : place.count ≡ length (datagrams_in place.out)
  pub few : place.count ≤ most_datagrams

-- it has the group with this index of the configuration, and the logs of its writers keep each data frame
pub record IsPlaceOf (config : Config) (g : ℕ) (place : Place) : Type 0 where
  pub index : index_of place.group ≡ g
  pub made : IsMadeFor config (group_at config g) place.group
  pub logs : KeepsLogs place.group
  pub reserved : IsReserved place.out

-- the group with this index isn't of this key group
abbrev pub IsApart : Config → Option ℕ → ℕ → Type 0
IsApart config keygroup g = option_map_or (shares (group_at config g)) keygroup false ≡ false

-- In a lane with this key group, or with none: a group that stands in it has that key group, and one of that key group stands in it.
abbrev pub IsPlaced : Config → Option ℕ → ℕ → Option Place → Type 0
IsPlaced config keygroup g None = IsApart config keygroup g
IsPlaced config keygroup g (Some place) = ((group_at config g).keygroup ≡ keygroup) × IsPlaceOf config g place

-- it stands where these deeds leave the group
abbrev pub HasPast : Config → List Deed → ℕ → Place → Type 0
HasPast config deeds g place =
    IsGroup (metas_for (group_at config g) config.dataset) (group_at config g) (group_past config g deeds) place.group

-- it may have so many turns more
abbrev pub MayGo : Config → ℕ → ℕ → Place → Type 0
MayGo config turns g place = MayGoOn (metas_for (group_at config g) config.dataset) (group_at config g) turns place.group

-- ---- before and between turns

-- it stands before the first of so many turns
pub record IsNewPlace (config : Config) (g turns : ℕ) (place : Place) : Type 0 where
  pub place_is : IsPlaceOf config g place
  pub past : HasPast config [] g place
  pub goes_on : MayGo config turns g place

-- its datagrams are forgotten
pub record IsForgotten (old new : Place) : Type 0 where
  pub group : new.group ≡ old.group
  pub none : datagrams_in new.out ≡ []
  pub shown : IsShown new

-- it was made with so many writers
abbrev pub HasWriters : ℕ → Group → Type 0
HasWriters writers group = (config : Config) × (part : GroupPart) × IsMadeFor config part group × (length part.writer ≡ writers)

-- the first so many writers are refreshed
pub record IsRefreshed (writers : ℕ) (old new : Group) : Type 0 where
  pub index : index_of new ≡ index_of old
  pub made : (config : Config) (part : GroupPart) → IsMadeFor config part old → IsMadeFor config part new
  pub stands : (metas : ℕ → MetaData) (part : GroupPart) (past : List GroupDeed) → IsGroup metas part past old
      → IsGroup metas part (refreshed_where (λ writer. true) past (range_with_len 0 writers)) new
  pub goes_on : (metas : ℕ → MetaData) (part : GroupPart) (turns : ℕ) → MayGoOn metas part turns old → MayGoOn metas part turns new
  pub logs : KeepsOnLogging old new

-- if there is a group
abbrev pub IsRefreshedIf : ℕ → Option Place → Option Place → Type 0
IsRefreshedIf writers None None = ⊤
IsRefreshedIf writers None (Some new) = ⊥
IsRefreshedIf writers (Some old) None = ⊥
IsRefreshedIf writers (Some old) (Some new) = IsRefreshed writers old.group new.group × (new ≡ record old { group = new.group })
