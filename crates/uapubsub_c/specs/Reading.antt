-- What a datagram does to a subscriber, and what calls tell C of its readers.
use Rattle.std.specs.Prelude.{◌≡◌, ℕ, ◌≤◌, ◌⊎◌, Bool, List, length, Ok, Err, None, Some, Result, is_some, if◌then◌else◌}
use Rattle.dataset_meta.specs.Metas.{MetaData}
use Rattle.dataset_reader.specs.Kept.{Kept}
use Rattle.reader_group.specs.declared.refusal.Taken.{Taken}
use Rattle.device.specs.Readings.{HaveExpired, IsNoReader, Keeps}
use Rattle.device.specs.Sides.{HasListened}
use Rattle.device.specs.declared.subscriber.Subscriber.{Subscriber}
use Rattle.uapubsub_c.specs.Answers.{Answered, Answers, IsLarge, OfSubscriber, Stays}
use Rattle.uapubsub_c.specs.Numbers.{status_number, why_number}
use Rattle.uapubsub_c.specs.declared.handle.Handle.{Handle}
use Rattle.uapubsub_c.specs.declared.status.Status.{Status}
use Rattle.uapubsub_c.specs.declared.status.Status.TheVariants.{Datagram, Index, Nothing}
use Rattle.uapubsub_c.specs.declared.subscribing.TakenWords.{TakenWords}

-- ---- datagrams

-- one of the subscriber's read groups can't be meant: the index is past 255, or there is none with it
abbrev pub HasNoReadGroup : ℕ → Subscriber → Type 0
HasNoReadGroup group subscriber = IsLarge group ⊎ (length subscriber.groups.items ≤ group)

abbrev pub taken_in : TakenWords → Taken
taken_in words = record { parts = words.parts; matched = words.matched; bad = words.bad }

-- the read group took the datagram with these counts, or refused it; or there is no such read group, and nothing changed
abbrev pub Listens : ℕ → ℕ → List ℕ → List ℕ → TakenWords → Subscriber → Result Unit Status → Subscriber → Type 0
Listens group now datagram left taken old (Ok value) new = HasListened group now datagram left old new (Ok (taken_in taken))
Listens group now datagram left taken old (Err (Datagram refusal)) new = HasListened group now datagram left old new (Err refusal)
Listens group now datagram left taken old (Err Index) new = (new ≡ old) × HasNoReadGroup group old
Listens group now datagram left taken old (Err other) new = ⊥

-- this is so, unless the datagram was refused
abbrev pub IsUnrefused : Type 0 → Status → Type 0
IsUnrefused says (Datagram refusal) = Unit {0}
IsUnrefused says other = says

abbrev pub Expires : ℕ → Subscriber → Result Unit Status → Subscriber → Type 0
Expires now old (Ok value) new = HaveExpired now old new
Expires now old (Err status) new = ⊥

-- ---- readers

-- one of the indexes is past 255, or there is no such read group or reader
abbrev pub HasNoReader : ℕ → ℕ → Subscriber → Type 0
HasNoReader group reader subscriber = (IsLarge group ⊎ IsLarge reader) ⊎ IsNoReader group reader subscriber

-- there is no such reader
abbrev pub IsAbsent : ℕ → ℕ → Subscriber → Status → Type 0
IsAbsent group reader subscriber Index = HasNoReader group reader subscriber
IsAbsent group reader subscriber other = ⊥

-- whether a row is held, and for which reason none was before, or is
pub record IsWaiting (told : Bool × ℕ) (meta : MetaData) (kept : Kept) : Type 0 where
  pub holds : told.0 ≡ is_some kept.row
  pub why : told.1 ≡ why_number kept.why

abbrev pub TellsWaiting : ℕ → ℕ → Subscriber → Result (Bool × ℕ) Status → Type 0
TellsWaiting group reader subscriber answer =
    Answers (λ told. Keeps group reader (IsWaiting told) subscriber) (IsAbsent group reader subscriber) answer

-- C sees UAP_OK where a row is held, and UAP_NONE where none is, with the reason
abbrev pub SeesWaiting : Result (Bool × ℕ) Status → ℕ → ℕ → ℕ → Type 0
SeesWaiting (Ok told) number was why = (number ≡ (if told.0 then 0 else status_number Nothing)) × (why ≡ told.1)
SeesWaiting (Err status) number was why = (number ≡ status_number status) × (why ≡ was)

pub record TellsWhy (group reader : ℕ) (old : Handle) (number was why : ℕ) (new : Handle) : Type 0 where
  pub answer : Result (Bool × ℕ) Status
  pub answered : Answered (OfSubscriber (Stays (TellsWaiting group reader))) old answer new
  pub sees : SeesWaiting answer number was why

-- the row was last made of the message with this number
abbrev pub HasNumber : ℕ → MetaData → Kept → Type 0
HasNumber number meta kept = kept.number ≡ Some number

-- there is no such reader, or no message's number is held
abbrev pub IsUnnumbered : ℕ → ℕ → Subscriber → Status → Type 0
IsUnnumbered group reader subscriber Index = HasNoReader group reader subscriber
IsUnnumbered group reader subscriber Nothing = Keeps group reader (λ meta kept. kept.number ≡ None) subscriber
IsUnnumbered group reader subscriber other = ⊥

abbrev pub TellsNumber : ℕ → ℕ → Subscriber → Result ℕ Status → Type 0
TellsNumber group reader subscriber answer =
    Answers (λ number. Keeps group reader (HasNumber number) subscriber) (IsUnnumbered group reader subscriber) answer
