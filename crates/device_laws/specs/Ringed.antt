-- Two devices whose key group is renewed with whichever rings, as those that pull their keys from a service.
use Rattle.std.specs.Prelude.{◌≡◌, ⊤, ℕ, ◌<◌, List, [], ◌∷◌, length, map, Some, All, Contains}
use Rattle.std.specs.List.{cons_option}
use Rattle.group_keys.specs.KeySets.{encrypting_length}
use Rattle.group_keys.specs.declared.key_set.KeySet.{KeySet}
use Rattle.message_guard.specs.declared.keys.TokenKeys.{TokenKeys}
use Rattle.message_guard.specs.Protection.{keys_in}
use Rattle.ps_config.specs.declared.parts.Config.{Config}
use Rattle.ps_config.specs.declared.parts.ReadGroupPart.{ReadGroupPart}
use Rattle.ps_config.specs.Configs.{is_long}
use Rattle.ps_config.specs.Rings.{key_set}
use Rattle.reader_group.specs.Agreeing.{ChunksNear, MemberIs}
use Rattle.reader_group.specs.Arrivals.{Mark, Way, arrivals_in}
use Rattle.reader_group.specs.Members.{seat_at}
use Rattle.reader_group.specs.Plain.{with_keys}
use Rattle.reader_group.specs.Settings.{keygroup_at, setting_by, setting_of}
use Rattle.writer_group.specs.Parts.{group_at}
use Rattle.group_laws.specs.Matching.{IsMatchedTo}
use Rattle.session_laws.specs.Pasts.{answered_by}
use Rattle.session_laws.specs.Plays.{IsAnswerBy, ItemsAre}
use Rattle.turn_laws.specs.Lives.{TokensNameKeys, marks_on}
use Rattle.turn_laws.specs.Sent.{place_near, sends_in}
use Rattle.device.specs.declared.subscriber.Subscriber.{Subscriber}
use Rattle.device_laws.specs.Alike.{ReadsAlike}
use Rattle.device_laws.specs.Deeds.{AreUnresumed, deeds_in}
use Rattle.device_laws.specs.Devices.{HoldsWhole, MemoryHolds, member_in}
use Rattle.device_laws.specs.Publishing.{HasOffered, IsPublisherLife, PublisherCall, PublisherLife, PublisherStep, Renewed, config_in}
use Rattle.device_laws.specs.Subscribing as reads
use Rattle.device_laws.specs.Subscribing.{IsSubscriberLife, SubscriberCall, SubscriberLife, SubscriberStep, TakenAre, event_by, reading, setting_in, subscriber_after}
use Rattle.device_laws.specs.Turning.{past_in}

-- ---- the rings

-- where the call renews the key group with index k, the key sets of the ring are among these
abbrev pub RingIsAmong : ℕ → List KeySet → PublisherCall → Type 0
RingIsAmong k all (Renewed keygroup sets) = keygroup ≡ k → All (Contains all) sets
RingIsAmong k all call = ⊤

-- over these calls
abbrev pub RingsAreAmong : ℕ → List KeySet → List PublisherStep → Type 0
RingsAreAmong k all [] = ⊤
RingsAreAmong k all (step ∷ before) = RingIsAmong k all step.call × RingsAreAmong k all before

-- the keys are those of some of these sets
pub record AreKeysAmong (all : List KeySet) (keys : List TokenKeys) : Type 0 where
  pub sets : List KeySet
  pub among : All (Contains all) sets
  pub are : keys ≡ map keys_in sets

-- so are those of a ring that renews the read group with index r
abbrev pub KeysAreAmong : ℕ → List KeySet → SubscriberCall → Type 0
KeysAreAmong r all (reads.Renewed group keys) = group ≡ r → AreKeysAmong all keys
KeysAreAmong r all call = ⊤

-- over these calls
abbrev pub AllKeysAreAmong : ℕ → List KeySet → List SubscriberStep → Type 0
AllKeysAreAmong r all [] = ⊤
AllKeysAreAmong r all (step ∷ before) = KeysAreAmong r all step.call × AllKeysAreAmong r all before

-- the encrypting key is as long as the key group's policy says
abbrev pub FitsPolicy : Config → ℕ → KeySet → Type 0
FitsPolicy config k set = length set.encrypting.items ≡ encrypting_length (is_long (keygroup_at config k).policy)

-- ---- the two

-- `ArePaired`, of a group that the key group with index k secures. The key sets of all rings that either side has for it are among these: of them each token has the
-- same keys, as long as the key group's policy says. No key group of the publisher was resumed.
pub record IsRingedPair (text other : List ℕ) (pub_life : PublisherLife) (sub_life : SubscriberLife) (readers : ReadGroupPart) (r i g w k : ℕ) (all : List KeySet) : Type 0 where
  pub publisher : IsPublisherLife text pub_life
  pub subscriber : IsSubscriberLife other sub_life
  pub there : g < length (config_in pub_life).group
  pub read_there : r < length sub_life.first.config.readgroup
  pub alike : ReadsAlike i (setting_in sub_life r) (setting_by (config_in pub_life) readers)
  pub matched : IsMatchedTo (config_in pub_life) readers i (group_at (config_in pub_life) g) w
  pub keyed : (group_at (config_in pub_life) g).keygroup ≡ Some k
  pub took : TakenAre sub_life.steps r (HasOffered pub_life.steps)
  pub unresumed : AreUnresumed pub_life.steps
  pub configured : All (Contains all) (map key_set (keygroup_at (config_in pub_life) k).key)
  pub rings : RingsAreAmong k all pub_life.steps
  pub keys : AllKeysAreAmong r all sub_life.steps
  pub named : TokensNameKeys all
  pub fit : All (FitsPolicy (config_in pub_life) k) all

-- the reader, of which each place is told by the token and number that it was sent with, and its 16 bits
abbrev pub ringed_way : PublisherLife → ReadGroupPart → ℕ → ℕ → ℕ → ℕ → Way
ringed_way pub_life readers i g w k = record {
  index = i;
  seat = seat_at (setting_by (config_in pub_life) readers).seats i;
  place = place_near (sends_in (config_in pub_life) k g w (deeds_in pub_life));
}

-- *Arrivals*, with the chunks, over a life. Each datagram is read with the keys that the group had when it came.
abbrev pub marks_of : Subscriber → List SubscriberStep → ℕ → Way → List Mark
marks_of first [] r way = []
marks_of first (step ∷ before) r way =
    let earlier = reading first before r in
    marks_on (with_keys (setting_of first.config r) earlier.keys) way earlier.value (marks_of first before r way)
    (cons_option (event_by step.call (subscriber_after first before) r) [])

-- where chunks' places are near, what is kept for the reader is what *Arrivals* and *Records* have of it
abbrev pub ReadsRinged : PublisherLife → SubscriberLife → ReadGroupPart → ℕ → ℕ → ℕ → ℕ → ℕ → Type 0
ReadsRinged pub_life sub_life readers r i g w k =
    let way = ringed_way pub_life readers i g w k in
    let list = marks_of sub_life.first sub_life.steps r way in
    ChunksNear list → MemberIs way list (member_in sub_life r i)

-- each item that comes to it is an answer of the writer, cut to the reader's fields, at its place or with no numbering without
abbrev pub ComesRinged : PublisherLife → SubscriberLife → ReadGroupPart → ℕ → ℕ → ℕ → ℕ → ℕ → Type 0
ComesRinged pub_life sub_life readers r i g w k =
    let way = ringed_way pub_life readers i g w k in
    ItemsAre (IsAnswerBy way.seat.part.numbering way.seat.meta (answered_by (group_at (config_in pub_life) g) w (past_in pub_life g)))
    (arrivals_in (marks_of sub_life.first sub_life.steps r way))

-- and a row that it holds is the whole row of a version, however many data frames the writer sent
abbrev pub HoldsRinged : PublisherLife → SubscriberLife → ReadGroupPart → ℕ → ℕ → ℕ → ℕ → ℕ → Type 0
HoldsRinged pub_life sub_life readers r i g w k =
    ChunksNear (marks_of sub_life.first sub_life.steps r (ringed_way pub_life readers i g w k)) → MemoryHolds sub_life r i (HoldsWhole pub_life g w)
