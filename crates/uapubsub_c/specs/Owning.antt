-- What calls tell C of a publisher.
use Rattle.std.specs.Prelude.{◌≡◌, ℕ, ◌<◌, ◌≤◌, ◌⊎◌, true, false, List, length, None, Some, Result}
use Rattle.ua_values.specs.declared.kind.Kind.{Kind}
use Rattle.ua_values.specs.declared.value.Value.{Value}
use Rattle.ua_binary.specs.Types.{kind_with}
use Rattle.dataset_meta.specs.DataValues.{DataValue}
use Rattle.row_words.specs.Setting.{HasStatus, HasValue}
use Rattle.row_words.specs.Words.{scalar_in}
use Rattle.device.specs.Due.{IsCalm, IsDue, IsFirst, IsNever, IsSpentAt}
use Rattle.device.specs.Sides.{HasField, HasNoField, HasNoScalar, RowIs}
use Rattle.device.specs.declared.publisher.Publisher.{Publisher}
use Rattle.uapubsub_c.specs.Answers.{Answered, Answers, IsLarge, OfPublisher, Stays}
use Rattle.uapubsub_c.specs.declared.handle.Handle.{Handle}
use Rattle.uapubsub_c.specs.declared.status.Status.{Status}
use Rattle.uapubsub_c.specs.declared.status.Status.TheVariants.{Index, Misfit, NoKind, Nothing, Spent}

-- ---- moments and groups

-- a datagram waits, or the publisher has something to do at the moment, and not before
pub record IsNextDue (now : ℕ) (publisher : Publisher) (moment : ℕ) : Type 0 where
  pub waits : publisher.handed < publisher.made → moment ≡ now
  pub first : publisher.made ≤ publisher.handed → IsFirst now (IsCalm publisher) (IsDue publisher) moment

-- no datagram waits, and from now on the publisher has nothing to do
pub record HasNothingDue (now : ℕ) (publisher : Publisher) : Type 0 where
  pub none_waits : ¬ (publisher.handed < publisher.made)
  pub never : publisher.made ≤ publisher.handed → IsNever now (IsCalm publisher)

abbrev pub IsNeverDue : ℕ → Publisher → Status → Type 0
IsNeverDue now publisher Nothing = HasNothingDue now publisher
IsNeverDue now publisher other = ⊥

abbrev pub TellsDue : ℕ → Publisher → Result ℕ Status → Type 0
TellsDue now publisher answer = Answers (IsNextDue now publisher) (IsNeverDue now publisher) answer

-- the last turn made no datagram
abbrev pub MadeNone : Publisher → Status → Type 0
MadeNone publisher Nothing = publisher.made ≡ 0
MadeNone publisher other = ⊥

-- the group whose turn made the last datagrams
abbrev pub TellsFrom : Publisher → Result ℕ Status → Type 0
TellsFrom publisher answer = Answers (λ group. (group ≡ publisher.from) × (0 < publisher.made)) (MadeNone publisher) answer

-- there is no such group, or it may have no turn
abbrev pub HasNoTurn : ℕ → Publisher → Status → Type 0
HasNoTurn group publisher Index = IsLarge group ⊎ (length publisher.sides.items ≤ group)
HasNoTurn group publisher Spent = IsSpentAt group publisher true
HasNoTurn group publisher other = ⊥

abbrev pub TellsTurn : ℕ → Publisher → Result Unit Status → Type 0
TellsTurn group publisher answer = Answers (λ value. IsSpentAt group publisher false) (HasNoTurn group publisher) answer

-- ---- rows

-- the publisher's own row of the data set is so
abbrev pub OwnRowIs : ℕ → (List DataValue → Type 0) → Publisher → Type 0
OwnRowIs set so publisher = RowIs set so publisher.config.dataset publisher.rows.items

-- one of the indexes is past 255, or there is no such data set or field
abbrev pub HasNoOwn : ℕ → ℕ → Publisher → Type 0
HasNoOwn set field publisher = (IsLarge set ⊎ IsLarge field) ⊎ HasNoField publisher.config.dataset set field

abbrev pub IsNoOwn : ℕ → ℕ → Publisher → Status → Type 0
IsNoOwn set field publisher Index = HasNoOwn set field publisher
IsNoOwn set field publisher other = ⊥

-- the value and the status of the field of the publisher's own row
pub record HasOwn (set field : ℕ) (publisher : Publisher) (told : Value × ℕ) : Type 0 where
  pub value : OwnRowIs set (λ row. HasValue row field told.0) publisher
  pub status : OwnRowIs set (λ row. HasStatus row field told.1) publisher

abbrev pub TellsOwn : ℕ → ℕ → Publisher → Result (Value × ℕ) Status → Type 0
TellsOwn set field publisher answer = Answers (HasOwn set field publisher) (IsNoOwn set field publisher) answer

-- C sees this of the value and the status of the field
pub record GetsOwn (set field : ℕ) (old : Handle) (sees : Result (Value × ℕ) Status → Type 0) (new : Handle) : Type 0 where
  pub answer : Result (Value × ℕ) Status
  pub answered : Answered (OfPublisher (Stays (TellsOwn set field))) old answer new
  pub seen : sees answer

abbrev pub TellsOwnStatus : ℕ → ℕ → Publisher → Result ℕ Status → Type 0
TellsOwnStatus set field publisher answer =
    Answers (λ status. OwnRowIs set (λ row. HasStatus row field status) publisher) (IsNoOwn set field publisher) answer

-- the scalar with this word, of the kind with this number
pub record HasOwnWord (set field number : ℕ) (publisher : Publisher) (word : ℕ) : Type 0 where
  pub kind : Kind
  pub kind_is : kind_with number ≡ Some kind
  pub value_is : OwnRowIs set (λ row. HasValue row field (scalar_in kind word)) publisher

-- no kind has this number; there is no such field; or it is there, and isn't of that kind, or this isn't a scalar's
abbrev pub IsNoOwnWord : ℕ → ℕ → ℕ → Publisher → Status → Type 0
IsNoOwnWord set field number publisher NoKind = kind_with number ≡ None
IsNoOwnWord set field number publisher Index = HasNoOwn set field publisher
IsNoOwnWord set field number publisher Misfit =
    HasField publisher.config.dataset set field
    × ((kind : Kind) × (kind_with number ≡ Some kind) × HasNoScalar publisher.config.dataset set field kind)
IsNoOwnWord set field number publisher other = ⊥

abbrev pub TellsOwnWord : ℕ → ℕ → ℕ → Publisher → Result ℕ Status → Type 0
TellsOwnWord set field number publisher answer = Answers (HasOwnWord set field number publisher) (IsNoOwnWord set field number publisher) answer
