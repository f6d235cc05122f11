-- The life of a subscriber: its calls from its opening on, each with where it left the subscriber; and what befell each of its read groups. Lists have the latest
-- first.
use Rattle.std.specs.Prelude.{◌≡◌, ⊤, ℕ, List, [], ◌∷◌, Bool, true, false, not, ◌&&◌, ◌==◌, Option, Some, None, Result, Ok, Err, if◌then◌else◌, length, slice_get, slice_index_or}
use Rattle.std.specs.List.{cons_option}
use Rattle.std.specs.Option.{option_map_or}
use Rattle.pubsub_model.specs.declared.reading.Why.TheVariants.{Restarted}
use Rattle.message_guard.specs.declared.keys.TokenKeys.{TokenKeys}
use Rattle.ps_config.specs.Reading.{configuration}
use Rattle.reader_group.specs.Filter.{takes_number}
use Rattle.reader_group.specs.Plain as befalls
use Rattle.reader_group.specs.Plain.{Event, PlainGroup, Setting, opening, step, with_keys}
use Rattle.reader_group.specs.Settings.{setting_of}
use Rattle.reader_group.specs.declared.refusal.Refusal.{Refusal}
use Rattle.reader_group.specs.declared.refusal.Taken.{Taken}
use Rattle.device.specs.declared.subscriber.Subscriber.{Subscriber}
use Rattle.device.specs.Readings.{HasKeysRenewed, HasNumber, HasReaderSwitched, HaveExpired}
use Rattle.device.specs.Sides.{AreOpeningListenings, HasListened, IsSubscriber}
use Rattle.device.specs.Takings.{HaveTaken}

-- ---- calls

-- a call of a subscriber that may change it
pub data SubscriberCall : Type 0 where
  -- a datagram came to a read group, which answered this
  Came : (group now : ℕ) (datagram : List ℕ) (answer : Result Taken Refusal) → SubscriberCall
  -- a datagram came to all read groups, which answered these, by their indexes
  Took : (now : ℕ) (datagram : List ℕ) (answers : List (Option (Result Taken Refusal))) → SubscriberCall
  -- time went on
  Expired : (now : ℕ) → SubscriberCall
  -- a reader was switched on or off
  Switched : (group reader : ℕ) (on : Bool) → SubscriberCall
  -- a read group goes on with the keys of another ring
  Renewed : (group : ℕ) (keys : List TokenKeys) → SubscriberCall
  -- a read group takes datagrams of this NetworkMessageNumber alone from now on, of any where it is 0
  Only : (group number : ℕ) → SubscriberCall
  -- there is no such read group or reader
  Refused : SubscriberCall

-- what the call makes of the subscriber: just what its clauses say
abbrev pub IsSubscriberCall : SubscriberCall → Subscriber → Subscriber → Type 0
IsSubscriberCall (Came group now datagram answer) old new = (left : List ℕ) × HasListened group now datagram left old new answer
IsSubscriberCall (Took now datagram answers) old new = HaveTaken (length old.groups.items) now datagram answers old new
IsSubscriberCall (Expired now) old new = HaveExpired now old new
IsSubscriberCall (Switched group reader on) old new = HasReaderSwitched group reader on old new
IsSubscriberCall (Renewed group keys) old new = HasKeysRenewed group keys old new
IsSubscriberCall (Only group number) old new = HasNumber group number old new
IsSubscriberCall Refused old new = new ≡ old

-- ---- a life

-- a call, and the subscriber after it
pub record SubscriberStep : Type 0 where
  pub call : SubscriberCall
  pub after : Subscriber

-- the subscriber after these calls
abbrev pub subscriber_after : Subscriber → List SubscriberStep → Subscriber
subscriber_after first [] = first
subscriber_after first (step ∷ before) = step.after

-- each call makes of the subscriber what its clauses say
abbrev pub AreSubscriberSteps : Subscriber → List SubscriberStep → Type 0
AreSubscriberSteps first [] = ⊤
AreSubscriberSteps first (step ∷ before) =
    IsSubscriber step.after × IsSubscriberCall step.call (subscriber_after first before) step.after
    × AreSubscriberSteps first before

-- the subscriber of the configuration that the text is, before any call: all that the clauses of `open` say
pub record IsOpenSubscriber (text : List ℕ) (subscriber : Subscriber) : Type 0 where
  pub is : IsSubscriber subscriber
  pub config_is : configuration text ≡ Ok subscriber.config
  pub groups : AreOpeningListenings subscriber.config subscriber.groups.items

-- a subscriber as it was opened, and its calls
pub record SubscriberLife : Type 0 where
  pub first : Subscriber
  pub steps : List SubscriberStep

pub record IsSubscriberLife (text : List ℕ) (life : SubscriberLife) : Type 0 where
  pub opened : IsOpenSubscriber text life.first
  pub steps_are : AreSubscriberSteps life.first life.steps

-- where it stands
abbrev pub subscriber_in : SubscriberLife → Subscriber
subscriber_in life = subscriber_after life.first life.steps

-- what the configuration, which no call changes, says of a read group
abbrev pub setting_in : SubscriberLife → ℕ → Setting
setting_in life r = setting_of life.first.config r

-- ---- what befell a read group

-- which of its readers are on
abbrev pub readers_on : Subscriber → ℕ → List Bool
readers_on subscriber r = option_map_or (λ listening. listening.on.items) (slice_get subscriber.groups.items r) []

abbrev pub some_if : Bool → Event → Option Event
some_if true event = Some event
some_if false event = None

-- it takes datagrams of this one's NetworkMessageNumber
abbrev pub takes_at : Subscriber → ℕ → List ℕ → Bool
takes_at subscriber r datagram = option_map_or (λ listening. takes_number listening.number datagram) (slice_get subscriber.groups.items r) false

-- the datagram that comes to a read group is one for the read group with index r
abbrev pub is_for : Subscriber → ℕ → ℕ → List ℕ → Bool
is_for subscriber group r datagram = (group == r) && takes_at subscriber r datagram

-- What a call of the subscriber is to the read group with index r, if it is something. A reader that is switched off is cut. A datagram of a number that the read group
-- doesn't take is nothing to it.
abbrev pub event_by : SubscriberCall → Subscriber → ℕ → Option Event
event_by (Came group now datagram answer) old r = some_if (is_for old group r datagram) (befalls.Got now (readers_on old r) datagram)
event_by (Took now datagram answers) old r = some_if (takes_at old r datagram) (befalls.Got now (readers_on old r) datagram)
event_by (Expired now) old r = Some (befalls.Expired now)
event_by (Switched group reader on) old r = some_if ((group == r) && not on) (befalls.Stopped reader Restarted)
event_by (Renewed group keys) old r = None
event_by (Only group number) old r = None
event_by Refused old r = None

-- what befell the read group with index r over these calls
abbrev pub events : Subscriber → List SubscriberStep → ℕ → List Event
events first [] r = []
events first (step ∷ before) r = cons_option (event_by step.call (subscriber_after first before) r) (events first before r)

abbrev pub events_in : SubscriberLife → ℕ → List Event
events_in life r = events life.first life.steps r

-- ---- what a read group has read

-- its keys, and its plain reading
pub record Reading : Type 0 where
  pub keys : List TokenKeys
  pub value : PlainGroup

-- where it stands once this befell it, if something did
abbrev pub read_if : Setting → Reading → Option Event → Reading
read_if setting reading None = reading
read_if setting reading (Some event) = record reading { value = step (with_keys setting reading.keys) reading.value event }

-- the keys of the read group with index r after the call
abbrev pub keys_by : SubscriberCall → ℕ → List TokenKeys → List TokenKeys
keys_by (Came group now datagram answer) r keys = keys
keys_by (Took now datagram answers) r keys = keys
keys_by (Expired now) r keys = keys
keys_by (Switched group reader on) r keys = keys
keys_by (Renewed group new) r keys = if group == r then new else keys
keys_by (Only group number) r keys = keys
keys_by Refused r keys = keys

-- where the read group with index r stands after these calls: each datagram was read with the keys that it had when it came
abbrev pub reading : Subscriber → List SubscriberStep → ℕ → Reading
reading first [] r =
    let setting = setting_of first.config r in record { keys = setting.setup.keys; value = opening setting }
reading first (step ∷ before) r =
    let earlier = reading first before r in
    let now = read_if (setting_of first.config r) earlier (event_by step.call (subscriber_after first before) r) in
    record now { keys = keys_by step.call r now.keys }

abbrev pub reading_in : SubscriberLife → ℕ → Reading
reading_in life r = reading life.first life.steps r

-- ---- the rings that it was given

-- a ring that the call gives the read group with index r has these keys
abbrev pub KeepsKeys : SubscriberCall → ℕ → List TokenKeys → Type 0
KeepsKeys (Came group now datagram answer) r keys = ⊤
KeepsKeys (Took now datagram answers) r keys = ⊤
KeepsKeys (Expired now) r keys = ⊤
KeepsKeys (Switched group reader on) r keys = ⊤
KeepsKeys (Renewed group new) r keys = group ≡ r → new ≡ keys
KeepsKeys (Only group number) r keys = ⊤
KeepsKeys Refused r keys = ⊤

-- each ring that renewed the read group with index r has these keys
abbrev pub AreOwnKeys : List SubscriberStep → ℕ → List TokenKeys → Type 0
AreOwnKeys [] r keys = ⊤
AreOwnKeys (step ∷ before) r keys = KeepsKeys step.call r keys × AreOwnKeys before r keys

-- ---- what it took

-- where the answer is that the datagram was taken
abbrev pub IfTaken : Option (Result Taken Refusal) → Type 0 → Type 0
IfTaken None T = ⊤
IfTaken (Some (Ok taken)) T = T
IfTaken (Some (Err refusal)) T = ⊤

-- where the call brought the read group with index r a datagram that it took, the datagram is such
abbrev pub IsTaken : SubscriberCall → ℕ → (List ℕ → Type 0) → Type 0
IsTaken (Came group now datagram (Ok taken)) r P = group ≡ r → P datagram
IsTaken (Took now datagram answers) r P = IfTaken (slice_index_or answers r None) (P datagram)
IsTaken call r P = ⊤

-- each datagram that the read group with index r took is such
abbrev pub TakenAre : List SubscriberStep → ℕ → (List ℕ → Type 0) → Type 0
TakenAre [] r P = ⊤
TakenAre (step ∷ before) r P = IsTaken step.call r P × TakenAre before r P
