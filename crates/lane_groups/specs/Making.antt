-- The lanes of a configuration before their first turns.
use Rattle.std.specs.Prelude.{◌≡◌, ⊤, ℕ, ◌+◌, ◌==◌, ◌<◌, ◌≤◌, Bool, true, false, List, length, Option, Some, None, is_some, slice_index_or}
use Rattle.std.specs.List.{HoldsAt}
use Rattle.ps_config.specs.declared.parts.Config.{Config}
use Rattle.writer_group.specs.Parts.{group_at}
use Rattle.session_model.specs.Deeds.{shares}
use Rattle.lane_groups.specs.declared.lane.Lane.{Lane}
use Rattle.lane_groups.specs.declared.making.Members.{Members}
use Rattle.lane_groups.specs.declared.making.Members.TheVariants as members
use Rattle.lane_groups.specs.declared.place.Place.{Place}
use Rattle.lane_groups.specs.Lanes.{has_group}
use Rattle.lane_groups.specs.Places.{IsNewPlace}
use Rattle.lane_groups.specs.Running.{IsNewLane, StandAlone, StandsIn}

-- whether the group with this index is among them
abbrev pub is_member : Config → Members → ℕ → Bool
is_member config (members.KeyGroup k) g = shares (group_at config g) k
is_member config (members.Group other) g = g == other

abbrev pub IsNewPlaceIf : Config → ℕ → ℕ → Bool → Option Place → Type 0
IsNewPlaceIf config g turns true None = ⊥
IsNewPlaceIf config g turns true (Some place) = IsNewPlace config g turns place
IsNewPlaceIf config g turns false None = ⊤
IsNewPlaceIf config g turns false (Some place) = ⊥

-- the places of a new lane with these members
pub record AreNewPlaces (config : Config) (turns : ℕ) (who : Members) (places : List (Option Place)) : Type 0 where
  pub count : length places ≡ length config.group
  pub each : (g : ℕ) → g < length config.group → HoldsAt (IsNewPlaceIf config g turns (is_member config who g)) places g

-- a lane of the groups of this key group, before the first of so many turns
pub record IsKeyedLane (config : Config) (turns k : ℕ) (lane : Lane) : Type 0 where
  pub new : IsNewLane config turns lane
  pub has : (g : ℕ) → g < length config.group → has_group lane g ≡ shares (group_at config g) k

-- one for each key group
pub record AreKeyedLanes (config : Config) (turns : ℕ) (lanes : List Lane) : Type 0 where
  pub count : length lanes ≡ length config.keygroup
  pub each : (k : ℕ) → k < length config.keygroup → HoldsAt (IsKeyedLane config turns k) lanes k

-- a lane of one group that isn't secured
pub record IsOpenLane (config : Config) (turns index : ℕ) (lane : Lane) : Type 0 where
  pub new : IsNewLane config turns lane
  pub has : (g : ℕ) → g < length config.group → has_group lane g ≡ (g == index)

-- those of key groups, and those of the groups before this one that aren't secured
pub record LanesTo (config : Config) (turns n : ℕ) (lanes : List Lane) : Type 0 where
  pub count : length lanes ≤ length config.keygroup + n
  pub each : (lane : ℕ) (none : Lane) → lane < length lanes → IsNewLane config turns (slice_index_or lanes lane none)
  pub keyed : (g : ℕ) → g < length config.group → is_some (group_at config g).keygroup ≡ true → (lane : ℕ) × StandsIn lanes g lane
  pub open_ones : (g : ℕ) → g < length config.group → (group_at config g).keygroup ≡ None → g < n → (lane : ℕ) × StandsIn lanes g lane
  pub none_yet : (g : ℕ) → g < length config.group → (group_at config g).keygroup ≡ None → n ≤ g → (lane : ℕ) (none : Lane) → lane < length lanes → has_group (slice_index_or lanes lane none) g ≡ false
  pub alone : StandAlone config lanes
