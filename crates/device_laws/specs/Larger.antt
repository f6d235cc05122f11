-- Larger lives of two devices whose groups are secured: a small one, and one with a renewal on both sides and a loss.
use Rattle.std.specs.Prelude.{◌≡◌, ℕ, ◌+◌, ◌<◌, ◌≤◌, List, [], ◌++◌, map, slice_index_or, None, Result, All}
use Rattle.ua_values.specs.declared.value.Value.{Value}
use Rattle.pubsub_model.specs.declared.reading.Why.TheVariants.{Start}
use Rattle.group_keys.specs.declared.key_set.KeySet.{KeySet}
use Rattle.message_guard.specs.Protection.{keys_in}
use Rattle.ps_config.specs.declared.parts.Config.{Config}
use Rattle.ps_config.specs.Rings.{key_set}
use Rattle.reader_group.specs.Settings.{group_at as read_group_at, keygroup_at}
use Rattle.reader_group.specs.declared.refusal.Refusal.{Refusal}
use Rattle.reader_group.specs.declared.refusal.Taken.{Taken}
use Rattle.writer_group.specs.Standing.{datagrams_in}
use Rattle.turn_laws.specs.Lives.{TokensNameKeys}
use Rattle.device.specs.declared.asked.Next.TheVariants.{Datagram}
use Rattle.device.specs.declared.publisher.Publisher.{Publisher}
use Rattle.device.specs.declared.subscriber.Subscriber.{Subscriber}
use Rattle.device.specs.Calls.{ComesStored}
use Rattle.device.specs.Readings.{HasKeysRenewed}
use Rattle.device.specs.Sides.{HasListened, HasRenewed, HasSet, IsPublisher, IsSubscriber}
use Rattle.device_laws.specs.Devices.{IsCounted, member_in}
use Rattle.device_laws.specs.Publishing.{IsOpenPublisher, PublisherLife, publisher_in}
use Rattle.device_laws.specs.Ringed.{FitsPolicy, IsRingedPair}
use Rattle.device_laws.specs.Small.{IsSmallRun}
use Rattle.device_laws.specs.Subscribing.{IsOpenSubscriber, SubscriberLife, subscriber_in}

-- the key sets that the configuration gives the key group
abbrev pub sets_of : Config → ℕ → List KeySet
sets_of config k = map key_set (keygroup_at config k).key

-- the lives of a small run, of a group that the key group with index k secures, meet the premises of the laws of secured readers
pub record MeetsSecured (text : List ℕ) (r i g w k : ℕ) (run : IsSmallRun text r) : Type 0 where
  pub publisher : PublisherLife
  pub subscriber : SubscriberLife
  pub paired : IsRingedPair text text publisher subscriber (read_group_at run.first.config r) r i g w k (sets_of run.first.config k)
  pub counted : IsCounted publisher
  pub ends : publisher_in publisher ≡ run.came
  pub reads : subscriber_in subscriber ≡ run.heard

-- What the clauses of these calls say. Both are opened with the text, and a field is set. The key group with index k is renewed with a ring at the publisher,
-- and the read group with index r with the same at the subscriber. A moment brings the publisher a datagram, which is lost. Another brings one, which comes to
-- the read group. The two rings owe what the laws ask: a token has the same keys in both, as long as the policy says.
pub record IsRenewedRun (text : List ℕ) (r k : ℕ) : Type 0 where
  pub first : Publisher
  pub opened : IsOpenPublisher text first
  pub set : Publisher
  pub index : ℕ
  pub field : ℕ
  pub value : Value
  pub status : ℕ
  pub was_set : HasSet index field value status first set
  pub set_is : IsPublisher set
  pub sets : List KeySet
  pub renewed : Publisher
  pub was_renewed : HasRenewed k sets set renewed
  pub renewed_is : IsPublisher renewed
  pub named : TokensNameKeys (sets_of first.config k ++ sets)
  pub fit : All (FitsPolicy first.config k) (sets_of first.config k ++ sets)
  pub now : ℕ
  pub came : Publisher
  pub comes : ComesStored now Datagram renewed came
  pub came_is : IsPublisher came
  pub waits : came.handed < came.made
  pub lost : Publisher
  pub lost_as : lost ≡ record came { handed = came.handed + 1 }
  pub lost_is : IsPublisher lost
  pub none_waits : lost.made ≤ lost.handed
  pub later : ℕ
  pub again : Publisher
  pub comes_again : ComesStored later Datagram lost again
  pub again_is : IsPublisher again
  pub waits_again : again.handed < again.made
  pub reads : Subscriber
  pub reads_opened : IsOpenSubscriber text reads
  pub keyed : Subscriber
  pub was_keyed : HasKeysRenewed r (map keys_in sets) reads keyed
  pub keyed_is : IsSubscriber keyed
  pub moment : ℕ
  pub left : List ℕ
  pub answer : Result Taken Refusal
  pub heard : Subscriber
  pub listened : HasListened r moment (slice_index_or (datagrams_in again.out) again.handed []) left keyed heard answer
  pub heard_is : IsSubscriber heard

-- its lives meet the premises of the laws of secured readers, before the datagram comes and after; before it the reader waits for a first key frame
pub record MeetsRenewed (text : List ℕ) (r i g w k : ℕ) (run : IsRenewedRun text r k) : Type 0 where
  pub publisher : PublisherLife
  pub waiting : SubscriberLife
  pub subscriber : SubscriberLife
  pub before : IsRingedPair text text publisher waiting (read_group_at run.first.config r) r i g w k (sets_of run.first.config k ++ run.sets)
  pub paired : IsRingedPair text text publisher subscriber (read_group_at run.first.config r) r i g w k (sets_of run.first.config k ++ run.sets)
  pub counted : IsCounted publisher
  pub waits : (member_in waiting r i).kept.row ≡ None
  pub why : (member_in waiting r i).kept.why ≡ Start
  pub ends : publisher_in publisher ≡ run.again
  pub still : subscriber_in waiting ≡ run.keyed
  pub reads : subscriber_in subscriber ≡ run.heard
