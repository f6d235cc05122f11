-- Lanes at work, in the words of Session run.
use Rattle.std.specs.Prelude.{◌≡◌, ◌≢◌, ℕ, ◌<◌, ◌≤◌, true, false, List, [], ◌++◌, length, map, slice_index_or, Option, None}
use Rattle.ua_base.specs.Journal.{LinkState, Tells}
use Rattle.ps_config.specs.declared.parts.Config.{Config}
use Rattle.writer_group.specs.Parts.{group_at}
use Rattle.group_threads.specs.declared.parcel.Parcel.{Parcel}
use Rattle.group_threads.specs.Closing.{Follows}
use Rattle.group_threads.specs.Groups.{of_group, pair_of}
use Rattle.group_threads.specs.Sending.{Conveyed}
use Rattle.lane_groups.specs.declared.lane.Lane.{Lane}
use Rattle.lane_groups.specs.declared.running.Ran.{Ran}
use Rattle.lane_groups.specs.declared.turn.TurnIn.{TurnIn}
use Rattle.lane_groups.specs.Deeds.{datagrams_by, turns_deeds}
use Rattle.lane_groups.specs.Lanes.{IsLane, MayAllGo, Stands, has_group}

-- a lane before the first of so many turns
pub record IsNewLane (config : Config) (turns : ℕ) (lane : Lane) : Type 0 where
  pub lane_is : IsLane config lane
  pub stands : Stands config [] lane
  pub goes_on : MayAllGo config turns lane.places.items

-- the group stands in the lane with this number, and in no other
pub record StandsIn (lanes : List Lane) (g lane : ℕ) : Type 0 where
  pub within : lane < length lanes
  pub there : (none : Lane) → has_group (slice_index_or lanes lane none) g ≡ true
  pub alone : (other : ℕ) (none : Lane) → other < length lanes → other ≢ lane → has_group (slice_index_or lanes other none) g ≡ false

-- a group that isn't secured stands alone in its lane
abbrev pub StandAlone : Config → List Lane → Type 0
StandAlone config lanes =
    (lane g h : ℕ) (none : Lane) → lane < length lanes → g < length config.group → h < length config.group → (group_at config g).keygroup ≡ None
    → has_group (slice_index_or lanes lane none) g ≡ true → has_group (slice_index_or lanes lane none) h ≡ true → g ≡ h

-- lanes before the first of so many turns, such that each group of the configuration stands in one, and alone where it isn't secured
pub record AreLanes (config : Config) (turns : ℕ) (lanes : List Lane) : Type 0 where
  pub few : length lanes ≤ 256
  pub each : (lane : ℕ) (none : Lane) → lane < length lanes → IsNewLane config turns (slice_index_or lanes lane none)
  pub one : (g : ℕ) → g < length config.group → (lane : ℕ) × StandsIn lanes g lane
  pub alone : StandAlone config lanes

-- the datagrams of this group among these parcels, in order
abbrev pub datagrams_in_group : ℕ → List Parcel → List (List ℕ)
datagrams_in_group g parcels = map (λ pair. pair.datagram) (of_group g (map pair_of parcels))

-- *lanes*: there are parcels, datagrams with their groups, with an entry for each that the link tells more, in order, and the counts of
-- these entries. The datagrams of each group are, in order and each once, those that Session run gives for it from these turns with all
-- components enabled. There are no others.
pub record HasRunLanes (config : Config) (turns : List TurnIn) (first last : Option LinkState) (ran : Ran) : Type 0 where
  pub parcels : List Parcel
  pub tells : Tells first last (Conveyed parcels (record { sent = ran.sent; failed = ran.failed; lacks = false }))
  pub groups : (g : ℕ) → g < length config.group → datagrams_in_group g parcels ≡ datagrams_by config g (turns_deeds config turns)
  pub others : (g : ℕ) → length config.group ≤ g → of_group g (map pair_of parcels) ≡ []

-- memory ran out: there is an entry for each parcel that the link tells more, in order, and the datagrams of each group are the first of those that Session
-- run gives for it
pub record HasStopped (config : Config) (turns : List TurnIn) (first last : Option LinkState) : Type 0 where
  pub parcels : List Parcel
  pub tells : Tells first last (Follows parcels)
  pub groups : (g : ℕ) → g < length config.group
      → (rest : List (List ℕ)) × (datagrams_in_group g parcels ++ rest ≡ datagrams_by config g (turns_deeds config turns))
  pub others : (g : ℕ) → length config.group ≤ g → of_group g (map pair_of parcels) ≡ []

-- the lanes are those of the configuration, stand where these turns leave their groups and senders, and have the groups that they had
pub record AreBehind (config : Config) (turns : List TurnIn) (old new : List Lane) : Type 0 where
  pub count : length new ≡ length old
  pub lanes : (lane : ℕ) (none : Lane) → lane < length old → IsLane config (slice_index_or new lane none)
  pub stand : (lane : ℕ) (none : Lane) → lane < length old → Stands config (turns_deeds config turns) (slice_index_or new lane none)
  pub groups : (lane : ℕ) (none : Lane) → lane < length old → (g : ℕ)
      → has_group (slice_index_or new lane none) g ≡ has_group (slice_index_or old lane none) g
