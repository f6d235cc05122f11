-- Senders that go on behind numbers that were used, and the groups that then send key frames next.
use Rattle.std.specs.Prelude.{◌≡◌, ℕ, ◌<◌, List, length, slice_set, Some}
use Rattle.std.specs.List.{AllZip, HoldsAt}
use Rattle.group_keys.specs.declared.key_set.KeySet.{KeySet}
use Rattle.group_keys.specs.KeySets.{current}
use Rattle.message_guard.specs.Senders.{SenderState}
use Rattle.ps_config.specs.declared.parts.Config.{Config}
use Rattle.ps_config.specs.declared.parts.KeyGroupPart.{KeyGroupPart}
use Rattle.writer_group.specs.Parts.{group_at}
use Rattle.device.specs.declared.publisher.Publisher.{Publisher}
use Rattle.device.specs.declared.side.Side.{Side}
use Rattle.device.specs.Coming.{AreRefreshed, HasOtherToken, all_writers}
use Rattle.device.specs.Sides.{IsNoLess, IsResumed, configured_sets}

-- the group is secured with the keys of this key group
abbrev pub IsSecuredWith : Config → ℕ → Side → Type 0
IsSecuredWith config keygroup side = (group_at config side.index).keygroup ≡ Some keygroup

-- where the key group's token changed, all writers of the group are refreshed, if it is secured with its keys; else the group stays
pub record IsRefreshedWith (config : Config) (keygroup : ℕ) (changed : Type 0) (old new : Side) : Type 0 where
  pub refreshed : IsSecuredWith config keygroup old → changed → AreRefreshed (all_writers config old) old new
  pub stays : (IsSecuredWith config keygroup old → ¬ changed) → new ≡ old

-- the sender of the key group goes on behind so many numbers of the last of these key sets whose moment has come (IsResumed), and no number comes twice; where its
-- token is another than before, all writers of the key group's groups are refreshed; and nothing else changed
pub record IsBehind (keygroup now used : ℕ) (sets : List KeySet) (old new : Publisher) : Type 0 where
  pub within : keygroup < length old.senders.items
  pub there : keygroup < length old.config.keygroup
  pub is_resumed : HoldsAt (λ part. HoldsAt (IsResumed part sets now used) new.senders.items keygroup) old.config.keygroup keygroup
  pub no_lower : HoldsAt (λ was. HoldsAt (IsNoLess was) new.senders.items keygroup) old.senders.items keygroup
  pub others : HoldsAt (λ is. new.senders.items ≡ slice_set old.senders.items keygroup is) new.senders.items keygroup
  pub refreshed : HoldsAt (λ was. HoldsAt (λ is. AllZip (IsRefreshedWith old.config keygroup (HasOtherToken was is)) old.sides.items new.sides.items)
      new.senders.items keygroup) old.senders.items keygroup
  pub rest : new ≡ record old { senders = new.senders; rings = new.rings; sides = new.sides }

-- the same with the key sets of the configuration
abbrev pub IsBehindConfigured : ℕ → ℕ → ℕ → Publisher → Publisher → Type 0
IsBehindConfigured keygroup now used old new =
    HoldsAt (λ part. IsBehind keygroup now used (configured_sets part) old new) old.config.keygroup keygroup

-- the last of these key sets whose moment has come at this moment is of an earlier token than this
pub record IsEarlier (now token : ℕ) (sets : List KeySet) : Type 0 where
  pub set : KeySet
  pub is : current sets now ≡ Some set
  pub earlier : set.token < token

-- with the sender of this key group that goes on behind so many numbers of these key sets (IsResumed), numbers that this one used would come again
pub record WouldRepeat (part : KeyGroupPart) (sets : List KeySet) (now used : ℕ) (sender : SenderState) : Type 0 where
  pub resumed : SenderState
  pub is : IsResumed part sets now used resumed
  pub repeats : ¬ IsNoLess sender resumed

-- where there is a key group with this index, numbers of its sender would come again with these key sets
abbrev pub MayNotResume : ℕ → ℕ → ℕ → List KeySet → Publisher → Type 0
MayNotResume keygroup now used sets publisher =
    keygroup < length publisher.senders.items → keygroup < length publisher.config.keygroup
    → HoldsAt (λ part. HoldsAt (WouldRepeat part sets now used) publisher.senders.items keygroup) publisher.config.keygroup keygroup

-- the same with the key sets of the configuration
abbrev pub MayNotResumeConfigured : ℕ → ℕ → ℕ → Publisher → Type 0
MayNotResumeConfigured keygroup now used publisher =
    HoldsAt (λ part. MayNotResume keygroup now used (configured_sets part) publisher) publisher.config.keygroup keygroup
