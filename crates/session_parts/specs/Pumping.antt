-- A session within a pump: after some receives.
use Rattle.std.specs.Prelude.{◌++◌, Option, ◌≡◌, ◌≢◌, ◌≤◌, ◌<◌, ◌+◌, ◌==◌, ℕ, Bool, false, List, [], ◌∷◌, length, map, count_by, true, if◌then◌else◌}
use Rattle.std.specs.List.{range_with_len}
use Rattle.ua_base.specs.Journal.{LinkState, Tells, Entry, Sent, SendFailed, Got, Empty, Long, ReceiveFailed}
use Rattle.ps_config.specs.declared.parts.Config.{Config}
use Rattle.ua_base.specs.Cause.{counted_if}
use Rattle.pubsub_states.specs.declared.component.Component.{Component}
use Rattle.pubsub_states.specs.declared.component.Component.TheVariants.{Root, Connection, ReadGroup, Reader}
use Rattle.pubsub_states.specs.Components.{counts_of, is_reader, IsAmong}
use Rattle.pubsub_states.specs.Changes.{TreeValue, flags_in}
use Rattle.pubsub_states.specs.States.{state_of, is_operational}
use Rattle.reader_group.specs.Plain.{Event, PlainGroup, Setting, member_at}
use Rattle.reader_group.specs.Groups.{Stands as ReadingStands}
use Rattle.reader_group.specs.declared.group.ReaderGroup.{ReaderGroup}
use Rattle.session_model.specs.Steps.{Step, moment_of, is_on}
use Rattle.session_model.specs.Counts.{longest_datagram, most_taken}
use Rattle.session_model.specs.Sends.{IsPump}
use Rattle.session_model.specs.Events.{got_all, got_on, readers_on, receives, switch_flags}
use Rattle.session_model.specs.Lives.{late_in, ready_in}
use Rattle.session_model.specs.Readings.{Reading}
use Rattle.session_model.specs.Answers.{counted}
use Rattle.session_model.specs.Closing.{is_datagram, is_got, is_broken, is_long}
use Rattle.session_parts.specs.declared.subscriber.Subscriber.{Subscriber}
use Rattle.session_parts.specs.declared.receiving.Receiving.{Receiving}
use Rattle.writer_group.specs.Standing.{IsGood}
use Rattle.session_parts.specs.Holding.{HoldSubscriber}
use Rattle.session_parts.specs.Standing.{HaveReadAll, HaveReadings, HaveTalliedAll}

-- the entry of a receive into a buffer for the longest datagram
abbrev pub IsReceive : Entry → Type 0
IsReceive (Sent bytes) = ⊥
IsReceive SendFailed = ⊥
IsReceive (Got bytes) = length bytes ≤ longest_datagram
IsReceive Empty = Unit {0}
IsReceive (Long size) = longest_datagram < size
IsReceive ReceiveFailed = Unit {0}

-- what an entry brings a read group in a pump after these steps
abbrev pub brought : Config → List Step → Entry → ℕ → List Event → List Event
brought config before entry r befell =
    if receives config before r then got_on (moment_of before) (readers_on config before r) befell entry else befell

-- each read group and its tally once this befell them
pub record HaveGot (config : Config) (from : ℕ → Reading) (befell : ℕ → List Event) (subscriber : Subscriber) : Type 0 where
  pub readings : HaveReadAll config from befell subscriber.groups.items
  pub tallies : HaveTalliedAll config from befell subscriber.tallies.items

-- the tree tells which components the script's switches left enabled; root, connection and read groups have no fault and are ready
pub record HasSwitches (config : Config) (before : List Step) (tree : TreeValue) : Type 0 where
  pub counts : tree.counts ≡ counts_of config
  pub root : flags_in tree Root ≡ switch_flags config before Root
  pub connection : flags_in tree Connection ≡ switch_flags config before Connection
  pub groups : (r : ℕ) → r < length config.readgroup → flags_in tree (ReadGroup r) ≡ switch_flags config before (ReadGroup r)
  pub readers : (r i : ℕ) → IsAmong tree.counts (Reader r i) → (flags_in tree (Reader r i)).enabled ≡ is_on config before (Reader r i)

abbrev pub IsOperationalIn : TreeValue → Component → Type 0
IsOperationalIn tree component = is_operational (state_of (flags_in tree) component) ≡ true

-- the tree has so many readers of the read group with this index
abbrev pub HasReaders : TreeValue → ℕ → ℕ → Type 0
HasReaders tree r count = (i : ℕ) → i < count → IsAmong tree.counts (Reader r i)

-- which of the first readers of the read group with this index the tree has as enabled
abbrev pub AreReadersOn : TreeValue → ℕ → ℕ → List Bool → Type 0
AreReadersOn tree r count on = on ≡ map (λ i. (flags_in tree (Reader r i)).enabled) (range_with_len 0 count)

-- a read group may be given a datagram
pub record MayHand (config : Config) (tree : TreeValue) (r : ℕ) (subscriber : Subscriber) : Type 0 where
  pub good : IsGood config
  pub within : r < length config.readgroup
  pub holds : HoldSubscriber config subscriber
  pub counts : tree.counts ≡ counts_of config

-- what befell the read groups, and what a datagram brings this one
abbrev pub with_brought : Config → List Step → List ℕ → ℕ → (ℕ → List Event) → ℕ → List Event
with_brought config before datagram r befell q =
    if q == r then brought config before (Got datagram) q (befell q) else befell q

-- a datagram was given to this read group
abbrev pub Hands : Config → TreeValue → ℕ → ℕ → List ℕ → Subscriber → Subscriber → Type 0
Hands config tree moment r datagram old new =
    (before : List Step) (from : ℕ → Reading) (befell : ℕ → List Event) → HasSwitches config before tree → moment ≡ moment_of before
    → HaveGot config from befell old → HaveGot config from (with_brought config before datagram r befell) new

-- no receive is counted
abbrev pub HasNoCounts : Receiving → Type 0
HasNoCounts receiving =
    (receiving.received ≡ 0) × (receiving.broken ≡ 0) × (receiving.long ≡ 0) × (receiving.limit ≡ 0)

-- a receive more is counted
pub record Counts (entry : Entry) (old new : Receiving) : Type 0 where
  pub received : new.received ≡ counted_if (is_got entry) old.received
  pub broken : new.broken ≡ counted_if (is_broken entry) old.broken
  pub long : new.long ≡ counted_if (is_long entry) old.long
  pub limit : new.limit ≡ old.limit

-- what a receive brought was passed on to the read groups
abbrev pub HandsOn : Config → Entry → TreeValue → ℕ → Subscriber → Subscriber → Type 0
HandsOn config entry tree moment subscriber after =
    (before : List Step) (from : ℕ → Reading) (befell : ℕ → List Event) → HasSwitches config before tree → moment ≡ moment_of before
    → HaveGot config from befell subscriber → HaveGot config from (λ r. brought config before entry r (befell r)) after

-- one receive: its entry is told, and counted, and passed on
pub record Receives (config : Config) (entry : Entry) (old new : Receiving) (subscriber after : Subscriber) (tree : TreeValue) (moment : ℕ) : Type 0 where
  pub is_receive : IsReceive entry
  pub counts : Counts entry old new
  pub hands_on : HandsOn config entry tree moment subscriber after

-- receives in order, as a pump makes them
pub record Pumps (config : Config) (entries : List Entry) (old new : Receiving) (subscriber after : Subscriber) (tree : TreeValue) (moment : ℕ) : Type 0 where
  pub pump : IsPump most_taken entries
  pub received : (n : ℕ) → old.received ≡ counted n → new.received ≡ counted (n + count_by is_got entries)
  pub broken : (n : ℕ) → old.broken ≡ counted n → new.broken ≡ counted (n + count_by is_broken entries)
  pub long : (n : ℕ) → old.long ≡ counted n → new.long ≡ counted (n + count_by is_long entries)
  pub limit : (n : ℕ) → old.limit ≡ counted n → new.limit ≡ counted (n + (if count_by is_datagram entries == most_taken then 1 else 0))
  pub hands_on : (before : List Step) (from : ℕ → Reading) (befell : ℕ → List Event) → HasSwitches config before tree → moment ≡ moment_of before
      → HaveGot config from befell subscriber → HaveGot config from (λ r. got_all config before r entries (befell r)) after

-- one receive, and what the link tells of it; the answer is whether a datagram was taken
abbrev pub ReceivesOne : Config → TreeValue → ℕ → Bool → Receiving → Receiving → Subscriber → Subscriber → Option LinkState → Option LinkState → Type 0
ReceivesOne config tree moment result old new subscriber after told later =
    (entry : Entry) × Receives config entry old new subscriber after tree moment × (result ≡ is_datagram entry)
    × Tells told later (λ x y. y.journal ≡ x.journal ++ entry ∷ [])

-- a pump that took so many datagrams, and what the link tells of it
pub record PumpsTo (config : Config) (tree : TreeValue) (moment taken : ℕ) (old new : Receiving) (subscriber after : Subscriber) (told later : Option LinkState) : Type 0 where
  pub entries : List Entry
  pub pumps : Pumps config entries old new subscriber after tree moment
  pub taken_are : taken ≡ count_by is_datagram entries
  pub tells : Tells told later (λ x y. y.journal ≡ x.journal ++ entries)

-- ---- what the tree is informed of readers

pub record TellsReaders (config : Config) (subscriber : Subscriber) (old new : TreeValue) : Type 0 where
  pub readers : (readings : ℕ → Reading) (r i : ℕ) → HaveReadings config readings subscriber.groups.items → IsAmong old.counts (Reader r i)
      → flags_in new (Reader r i) ≡ record { enabled = (flags_in old (Reader r i)).enabled; fault = late_in readings r i; ready = ready_in readings r i }
  pub others : (component : Component) → IsAmong old.counts component → is_reader component ≡ false → flags_in new component ≡ flags_in old component

-- the tree has whether this reader is late and whether it is ready; else it is as it was
pub record TellsReader (group : ReaderGroup) (r i : ℕ) (old new : TreeValue) : Type 0 where
  pub counts : new.counts ≡ old.counts
  pub reader : (setting : Setting) (value : PlainGroup) → ReadingStands setting value group
      → flags_in new (Reader r i)
      ≡ record { enabled = (flags_in old (Reader r i)).enabled; fault = (member_at value.members i).late; ready = (member_at value.members i).ready }
  pub others : (component : Component) → IsAmong old.counts component → component ≢ Reader r i → flags_in new component ≡ flags_in old component

-- the tree has which of the first n readers of a read group are late and which are ready; else it is as it was
pub record TellsGroup (group : ReaderGroup) (r n : ℕ) (old new : TreeValue) : Type 0 where
  pub counts : new.counts ≡ old.counts
  pub readers : (i : ℕ) → i < n → (setting : Setting) (value : PlainGroup) → ReadingStands setting value group
      → flags_in new (Reader r i)
      ≡ record { enabled = (flags_in old (Reader r i)).enabled; fault = (member_at value.members i).late; ready = (member_at value.members i).ready }
  pub others : (component : Component) → IsAmong old.counts component → ((i : ℕ) → i < n → component ≢ Reader r i) → flags_in new component ≡ flags_in old component
