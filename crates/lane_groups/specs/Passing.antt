-- The part of one group in a turn of its lane.
use Rattle.std.specs.Prelude.{◌≡◌, ℕ, ◌+◌, ◌<◌, ◌≤◌, ◌^◌, Bool, List, [], ◌++◌, length, fold, All, Option, Some, None, IfSome, slice_index_or, replicate, false, true, nat_lt, not, ◌==◌, option_map}
use Rattle.std.specs.List.{HoldsAt, range_with_len}
use Rattle.std.specs.Option.{option_map_or}
use Rattle.message_guard.specs.Senders.{SenderState, IsSender, numbers_left, turned}
use Rattle.ps_config.specs.declared.parts.Config.{Config}
use Rattle.ps_config.specs.declared.parts.GroupPart.{GroupPart}
use Rattle.ps_config.specs.Headers.{mode_of}
use Rattle.writer_group.specs.Parts.{group_at}
use Rattle.writer_group.specs.Sealing.{advanced_by}
use Rattle.writer_group.specs.Standing.{HasTicked, IsGood, IsGroup, datagrams_in, input_of, metas_for}
use Rattle.writer_group.specs.Turns.{GroupDeed}
use Rattle.session_model.specs.Sets.{AreRowsOf}
use Rattle.session_model.specs.Deeds.{Deed, rekeyed, sender_of, turned_on}
use Rattle.session_parts.specs.declared.publisher.Told.{Told}
use Rattle.lane_groups.specs.declared.place.Place.{Place}
use Rattle.lane_groups.specs.declared.turn.TurnIn.{TurnIn}
use Rattle.lane_groups.specs.Deeds.{datagrams_by, plan_of}
use Rattle.lane_groups.specs.Places.{HasPast, HasWriters, IsPlaceOf, IsRefreshedIf, IsShown, MayGo}
use Rattle.lane_groups.specs.Lanes.{AreOfLane, IsSenderOf, MayAllGo, StandAt, is_in}

-- what is given of a turn
pub record IsTold (told : Told) : Type 0 where
  pub good : IsGood told.config.now
  pub metas_are : told.metas.now ≡ told.config.now.dataset
  pub rows : AreRowsOf told.config.now.dataset told.rows.now

pub record IsToldBy (told : Told) (config : Config) (turn : TurnIn) : Type 0 where
  pub config_is : told.config.now ≡ config
  pub metas_are : told.metas.now ≡ config.dataset
  pub rows_are : told.rows.now ≡ turn.rows.items
  pub moment_is : told.moment ≡ turn.now
  pub closing_is : told.closing ≡ turn.closing

-- the deeds with the turn of this group, if it has one
abbrev pub turned_by : Told → List Deed → ℕ → List Deed
turned_by told before g = turned_on (plan_of told.config.now) [] told.moment told.closing told.rows.now before g

-- what the part of a group asks for
pub record MayPass (told : Told) (g : ℕ) (place : Place) (sender : Option SenderState) : Type 0 where
  pub told_is : IsTold told
  pub within : g < length told.config.now.group
  pub place_is : IsPlaceOf told.config.now g place
  pub goes_on : MayGo told.config.now 1 g place
  pub sender_is : IsSenderOf (group_at told.config.now g).keygroup sender

abbrev pub MayPassIf : Told → ℕ → Option Place → Option SenderState → Type 0
MayPassIf told g place sender = IfSome place (λ p. MayPass told g p sender)

-- there is a sender, and it has fewer than 1,024 numbers left under its token
abbrev pub spent_in : Option SenderState → Bool
spent_in sender = option_map_or (λ s. nat_lt (numbers_left s) 1024) sender false

-- all writers of a group are Operational
abbrev pub all_on : GroupPart → List Bool
all_on part = replicate (length part.writer) true

-- the sender, if there is one, gave a front for each of so many datagrams
pub record HasAdvanced (told : Told) (g count : ℕ) (before after : Option SenderState) : Type 0 where
  pub advanced : after ≡ option_map (λ s. advanced_by (mode_of (group_at told.config.now g).security) s count) before
  pub sender_is : IfSome after IsSender

-- a turn: with which sender, and what it leaves
pub record Turns (told : Told) (g : ℕ) (old new : Place) (before after : Option SenderState) : Type 0 where
  pub place_is : IsPlaceOf told.config.now g new
  pub shown : IsShown new
  pub sender_is : IsSenderOf (group_at told.config.now g).keygroup after
  pub goes_on : (turns : ℕ) → MayGo told.config.now (turns + 1) g old → MayGo told.config.now turns g new
  pub ticked : (past : List GroupDeed) → IsGroup (metas_for (group_at told.config.now g) told.config.now.dataset) (group_at told.config.now g) past old.group
      → HasTicked told.config.now (group_at told.config.now g) past
      (input_of told.moment told.closing told.config.now.dataset told.rows.now (all_on (group_at told.config.now g)) before) new.group new.out
  pub advanced : after ≡ option_map (λ s. advanced_by (mode_of (group_at told.config.now g).security) s new.count) before

-- a datagram has a byte, and less than 2^32
pub record IsWhole (datagram : List ℕ) : Type 0 where
  pub some : 0 < length datagram
  pub short : length datagram < 2 ^ 32

-- after these deeds it has the turn, if it has one, and made the datagrams of it
pub record PassesFrom (told : Told) (g : ℕ) (before : List Deed) (new : Place) (sender : Option SenderState) : Type 0 where
  pub past : HasPast told.config.now (turned_by told before g) g new
  pub sender_is : sender ≡ sender_of told.config.now g (turned_by told before g)
  pub made : datagrams_by told.config.now g (turned_by told before g) ≡ datagrams_by told.config.now g before ++ datagrams_in new.out
  pub whole : All IsWhole (datagrams_in new.out)

pub record Passes (told : Told) (g : ℕ) (old new : Place) (before after : Option SenderState) : Type 0 where
  pub place_is : IsPlaceOf told.config.now g new
  pub shown : IsShown new
  pub sender_is : IsSenderOf (group_at told.config.now g).keygroup after
  pub goes_on : (turns : ℕ) → MayGo told.config.now (turns + 1) g old → MayGo told.config.now turns g new
  pub from : (deeds : List Deed) → HasPast told.config.now deeds g old → before ≡ sender_of told.config.now g deeds → PassesFrom told g deeds new after

-- a group that stands in another lane has no part
abbrev pub PassesIf : Told → ℕ → Option Place → Option Place → Option SenderState → Option SenderState → Type 0
PassesIf told g None None before after = after ≡ before
PassesIf told g None (Some new) before after = ⊥
PassesIf told g (Some old) None before after = ⊥
PassesIf told g (Some old) (Some new) before after = Passes told g old new before after

-- the first n groups had their parts
abbrev pub passed_to : Told → ℕ → List Deed → List Deed
passed_to told n deeds = fold (turned_by told) deeds (range_with_len 0 n)

-- what a group made, which stands where the deeds take it from the first to the last
pub record HasAdded (config : Config) (g : ℕ) (first last : List Deed) (place : Place) : Type 0 where
  pub made : datagrams_by config g last ≡ datagrams_by config g first ++ datagrams_in place.out
  pub whole : All IsWhole (datagrams_in place.out)

-- the groups of a lane before this one had their parts
pub record HavePassed (told : Told) (n : ℕ) (keygroup : Option ℕ) (olds news : List (Option Place)) (before after : Option SenderState) : Type 0 where
  pub are : AreOfLane told.config.now keygroup news after
  pub same : (g : ℕ) → is_in news g ≡ is_in olds g
  pub shown : (g : ℕ) → g < n → HoldsAt (λ place. IfSome place IsShown) news g
  pub left : (g : ℕ) → n ≤ g → (d : Option Place) → slice_index_or news g d ≡ slice_index_or olds g d
  pub goes_on : (g : ℕ) → g < n → (turns : ℕ) → HoldsAt (λ place. IfSome place (MayGo told.config.now (turns + 1) g)) olds g
      → HoldsAt (λ place. IfSome place (MayGo told.config.now turns g)) news g
  pub stand : (deeds : List Deed) → StandAt told.config.now deeds keygroup olds before → StandAt told.config.now (passed_to told n deeds) keygroup news after
  pub made : (deeds : List Deed) → StandAt told.config.now deeds keygroup olds before → (g : ℕ) → g < n
      → HoldsAt (λ place. IfSome place (HasAdded told.config.now g deeds (passed_to told n deeds))) news g

-- what the groups of a lane ask for
pub record MayPassAll (told : Told) (keygroup : Option ℕ) (places : List (Option Place)) (sender : Option SenderState) : Type 0 where
  pub told_is : IsTold told
  pub are : AreOfLane told.config.now keygroup places sender
  pub goes_on : MayAllGo told.config.now 1 places

-- ---- the beginning of a turn

-- the sender came to the moment, if there is one; whether its token changed
pub record HasCome (moment : ℕ) (before : Option SenderState) (changed : Bool) (after : Option SenderState) : Type 0 where
  pub sent : after ≡ option_map (λ s. turned s moment) before
  pub changed_is : changed ≡ option_map_or (λ s. not ((turned s moment).keys.token == s.keys.token)) before false
  pub sender_is : IfSome after IsSender

-- each group has its writers
abbrev pub AreRefreshable : Config → List (Option Place) → Type 0
AreRefreshable config places =
    (g : ℕ) → g < length config.group → HoldsAt (λ place. IfSome place (λ p. HasWriters (length (group_at config g).writer) p.group)) places g

-- all writers of the groups were refreshed
pub record AreRefreshed (config : Config) (olds news : List (Option Place)) : Type 0 where
  pub count : length news ≡ length olds
  pub each : (g : ℕ) → g < length olds → (d : Option Place)
      → IsRefreshedIf (length (group_at config g).writer) (slice_index_or olds g d) (slice_index_or news g d)
  pub left : (g : ℕ) → length olds ≤ g → (d : Option Place) → slice_index_or news g d ≡ slice_index_or olds g d

-- the sender came to the moment, and the groups were refreshed where its token changed
pub record HaveBegun (config : Config) (moment : ℕ) (keygroup : Option ℕ) (olds news : List (Option Place)) (before after : Option SenderState) : Type 0 where
  pub are : AreOfLane config keygroup news after
  pub same : (g : ℕ) → is_in news g ≡ is_in olds g
  pub goes_on : (turns : ℕ) → MayAllGo config turns olds → MayAllGo config turns news
  pub stand : (deeds : List Deed) → StandAt config deeds keygroup olds before → StandAt config (rekeyed config moment deeds) keygroup news after
