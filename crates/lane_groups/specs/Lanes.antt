-- A lane.
use Rattle.std.specs.Prelude.{◌≡◌, ℕ, ◌+◌, ◌-◌, ◌<◌, ◌≤◌, Bool, true, false, List, [], ◌++◌, length, map, All, Option, None, is_some, option_map, IfSome, slice_index_or}
use Rattle.std.specs.List.{HoldsAt}
use Rattle.message_guard.specs.Senders.{SenderState, IsSender}
use Rattle.ps_config.specs.declared.parts.Config.{Config}
use Rattle.writer_group.specs.declared.group.Group.{Group}
use Rattle.writer_group.specs.Parts.{group_at}
use Rattle.writer_group.specs.Standing.{IsGood, IsGroup, IsMadeFor, KeepsLogs, metas_for}
use Rattle.session_model.specs.Sets.{AreRowsOf}
use Rattle.session_model.specs.Deeds.{Deed, group_past, sender_after}
use Rattle.group_threads.specs.Pairs.{Pair}
use Rattle.group_threads.specs.Groups.{of_group}
use Rattle.lane_groups.specs.declared.lane.Lane.{Lane}
use Rattle.lane_groups.specs.declared.place.Place.{Place}
use Rattle.lane_groups.specs.declared.turn.Work.{Work}
use Rattle.lane_groups.specs.declared.turn.TurnIn.{TurnIn}
use Rattle.lane_groups.specs.Deeds.{datagrams_by, deeds_behind}
use Rattle.lane_groups.specs.Places.{HasPast, IsPlaced, IsShown, MayGo, pairs_from}

-- a sender is there exactly where there is a key group
pub record IsSenderOf (keygroup : Option ℕ) (sender : Option SenderState) : Type 0 where
  pub there : is_some sender ≡ is_some keygroup
  pub sender_is : IfSome sender IsSender

-- it is where these deeds leave that of the key group
abbrev pub HasSent : Config → List Deed → Option ℕ → Option SenderState → Type 0
HasSent config deeds keygroup sender = sender ≡ option_map (λ k. sender_after config k deeds) keygroup

-- the groups and the sender of a lane of the configuration: all groups of its key group with its sender, or groups without one
pub record AreOfLane (config : Config) (keygroup : Option ℕ) (places : List (Option Place)) (sender : Option SenderState) : Type 0 where
  pub count : length places ≡ length config.group
  pub places_are : (g : ℕ) → g < length config.group → HoldsAt (IsPlaced config keygroup g) places g
  pub sender_is : IsSenderOf keygroup sender

abbrev pub IsLane : Config → Lane → Type 0
IsLane config lane = AreOfLane config lane.keygroup lane.places.items lane.sender

-- they stand where these deeds leave them
pub record StandAt (config : Config) (deeds : List Deed) (keygroup : Option ℕ) (places : List (Option Place)) (sender : Option SenderState) : Type 0 where
  pub past : (g : ℕ) → g < length config.group → HoldsAt (λ place. IfSome place (HasPast config deeds g)) places g
  pub sent : HasSent config deeds keygroup sender

abbrev pub Stands : Config → List Deed → Lane → Type 0
Stands config deeds lane = StandAt config deeds lane.keygroup lane.places.items lane.sender

-- the groups may have so many turns more
abbrev pub MayAllGo : Config → ℕ → List (Option Place) → Type 0
MayAllGo config turns places = (g : ℕ) → g < length config.group → HoldsAt (λ place. IfSome place (MayGo config turns g)) places g

-- the group with this index is among them
abbrev pub is_in : List (Option Place) → ℕ → Bool
is_in places g = is_some (slice_index_or places g None)

-- it stands in the lane
abbrev pub has_group : Lane → ℕ → Bool
has_group lane g = is_in lane.places.items g

-- this is the group with this index in the lane: it stands where deeds leave it that leave the lane where it stands
abbrev pub IsGroupIn : Lane → ℕ → Group → Type 0
IsGroupIn lane g group =
    (config : Config) (deeds : List Deed) → g < length config.group → Stands config deeds lane
    → IsGroup (metas_for (group_at config g) config.dataset) (group_at config g) (group_past config g deeds) group

-- it was made for that group of the configuration whose lane it is
abbrev pub IsMadeIn : Lane → ℕ → Group → Type 0
IsMadeIn lane g group = (config : Config) → g < length config.group → IsLane config lane → IsMadeFor config (group_at config g) group

-- the logs of its writers keep each data frame, in a lane of whichever configuration
abbrev pub IsLoggedIn : Lane → ℕ → Group → Type 0
IsLoggedIn lane g group = (config : Config) → g < length config.group → IsLane config lane → KeepsLogs group

-- the datagrams of its last turn
abbrev pub made_by : Lane → List Pair
made_by lane = pairs_from 0 lane.places.items

-- it has had a turn
pub record HasMade (lane : Lane) : Type 0 where
  pub few : length lane.places.items ≤ 4
  pub each : All (λ place. IfSome place IsShown) lane.places.items

-- each turn has a row of each data set
pub record IsWork (config : Config) (turns : List TurnIn) : Type 0 where
  pub good : IsGood config
  pub rows : All (λ turn. AreRowsOf config.dataset turn.rows.items) turns

-- it has had so many of the turns, and may have the others
pub record MayTurn (work : Work) (number : ℕ) (lane : Lane) : Type 0 where
  pub work_is : IsWork work.config.now work.turns.now
  pub lane_is : IsLane work.config.now lane
  pub stands : Stands work.config.now (deeds_behind work.config.now work.turns.now number) lane
  pub goes_on : MayAllGo work.config.now (length work.turns.now - number) lane.places.items

-- with the turn of this number each of its groups makes the datagrams that the plain loop of its turns makes then, and it makes no others
pub record HasTurn (work : Work) (number : ℕ) (old new : Lane) : Type 0 where
  pub lane_is : IsLane work.config.now new
  pub stands : Stands work.config.now (deeds_behind work.config.now work.turns.now (number + 1)) new
  pub groups : (g : ℕ) → has_group new g ≡ has_group old g
  pub made : (g : ℕ) → has_group old g ≡ true
      → datagrams_by work.config.now g (deeds_behind work.config.now work.turns.now (number + 1))
      ≡ datagrams_by work.config.now g (deeds_behind work.config.now work.turns.now number) ++ map (λ pair. pair.datagram) (of_group g (made_by new))
  pub others : (g : ℕ) → has_group old g ≡ false → of_group g (made_by new) ≡ []
