-- A small life of two devices: one field is set, the publisher comes to one moment, and one datagram comes to a read group.
use Rattle.std.specs.Prelude.{◌≡◌, ℕ, ◌<◌, List, [], slice_index_or, Result}
use Rattle.ua_values.specs.declared.value.Value.{Value}
use Rattle.reader_group.specs.declared.refusal.Refusal.{Refusal}
use Rattle.reader_group.specs.declared.refusal.Taken.{Taken}
use Rattle.writer_group.specs.Standing.{datagrams_in}
use Rattle.device.specs.declared.asked.Next.TheVariants.{Datagram}
use Rattle.device.specs.declared.publisher.Publisher.{Publisher}
use Rattle.device.specs.declared.subscriber.Subscriber.{Subscriber}
use Rattle.device.specs.Calls.{ComesStored}
use Rattle.device.specs.Sides.{HasListened, HasSet, IsPublisher, IsSubscriber}
use Rattle.device_laws.specs.declared.run.Pair.{Pair}
use Rattle.device_laws.specs.Devices.{ArePairedByOne, HasSentFew, IsCounted}
use Rattle.device_laws.specs.Publishing.{IsOpenPublisher, PublisherLife, publisher_in}
use Rattle.device_laws.specs.Subscribing.{IsOpenSubscriber, SubscriberLife, subscriber_in}

-- What the clauses of these calls say. Both are opened with the text, and a field is set. A moment brings the publisher a datagram, and this comes to the read group
-- with index r.
pub record IsSmallRun (text : List ℕ) (r : ℕ) : Type 0 where
  pub first : Publisher
  pub opened : IsOpenPublisher text first
  pub set : Publisher
  pub index : ℕ
  pub field : ℕ
  pub value : Value
  pub status : ℕ
  pub was_set : HasSet index field value status first set
  pub set_is : IsPublisher set
  pub now : ℕ
  pub came : Publisher
  pub comes : ComesStored now Datagram set came
  pub came_is : IsPublisher came
  pub waits : came.handed < came.made
  pub reads : Subscriber
  pub reads_opened : IsOpenSubscriber text reads
  pub later : ℕ
  pub left : List ℕ
  pub answer : Result Taken Refusal
  pub heard : Subscriber
  pub listened : HasListened r later (slice_index_or (datagrams_in came.out) came.handed []) left reads heard answer
  pub heard_is : IsSubscriber heard

-- its two lives, for a reader that the configuration matches to a writer, meet the premises of the laws
pub record MeetsPremises (text : List ℕ) (r i g w : ℕ) (run : IsSmallRun text r) : Type 0 where
  pub publisher : PublisherLife
  pub subscriber : SubscriberLife
  pub paired : ArePairedByOne text publisher subscriber r i g w
  pub counted : IsCounted publisher
  pub few : HasSentFew 16385 publisher g w
  pub ends : publisher_in publisher ≡ run.came
  pub reads : subscriber_in subscriber ≡ run.heard

-- the pair is where such calls left it
pub record HasRun (text : List ℕ) (r : ℕ) (pair : Pair) : Type 0 where
  pub run : IsSmallRun text r
  pub publisher : pair.publisher ≡ run.came
  pub subscriber : pair.subscriber ≡ run.heard
