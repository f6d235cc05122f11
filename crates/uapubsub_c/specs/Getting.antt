-- What calls tell C of the fields of a subscriber's rows.
use Rattle.std.specs.Prelude.{◌≡◌, ℕ, ◌⊎◌, None, Some, Result, Ok, Err}
use Rattle.ua_values.specs.declared.kind.Kind.{Kind}
use Rattle.ua_values.specs.declared.value.Value.{Value}
use Rattle.ua_values.specs.declared.value.Value.TheVariants.{Guid}
use Rattle.ua_binary.specs.Types.{kind_with}
use Rattle.dataset_meta.specs.Metas.{MetaData}
use Rattle.row_words.specs.Words.{scalar_in}
use Rattle.dataset_reader.specs.Kept.{Kept}
use Rattle.device.specs.Readings.{HasFieldStatus, HasFieldValue, HasNoMisfit, HoldsNone, IsOfKind, IsOfOtherKind, IsUntoldAt, Keeps}
use Rattle.device.specs.declared.asked.NoValue.TheVariants.{NoField}
use Rattle.device.specs.declared.subscriber.Subscriber.{Subscriber}
use Rattle.uapubsub_c.specs.Answers.{Answered, Answers, IsLarge, OfSubscriber, Stays}
use Rattle.uapubsub_c.specs.Numbers.{status_number}
use Rattle.uapubsub_c.specs.declared.guid.GuidBytes.{GuidBytes}
use Rattle.uapubsub_c.specs.declared.handle.Handle.{Handle}
use Rattle.uapubsub_c.specs.declared.status.Status.{Status}
use Rattle.uapubsub_c.specs.declared.status.Status.TheVariants.{Index, Misfit, NoKind, Nothing}

-- one of the indexes is past 255, or there is no such read group, reader or field
abbrev pub HasNoField : ℕ → ℕ → ℕ → Subscriber → Type 0
HasNoField group reader field subscriber =
    (IsLarge group ⊎ (IsLarge reader ⊎ IsLarge field)) ⊎ IsUntoldAt HasNoMisfit group reader field subscriber NoField

-- there is no such field; no row is held; or what is there is a misfit
abbrev pub IsUntold : (MetaData → Kept → Type 0) → ℕ → ℕ → ℕ → Subscriber → Status → Type 0
IsUntold misfit group reader field subscriber Index = HasNoField group reader field subscriber
IsUntold misfit group reader field subscriber Nothing = Keeps group reader HoldsNone subscriber
IsUntold misfit group reader field subscriber Misfit = Keeps group reader misfit subscriber
IsUntold misfit group reader field subscriber other = ⊥

-- the value and the status of the field of the row that is held
pub record HasBoth (group reader field : ℕ) (subscriber : Subscriber) (told : Value × ℕ) : Type 0 where
  pub value : Keeps group reader (HasFieldValue field told.0) subscriber
  pub status : Keeps group reader (HasFieldStatus field told.1) subscriber

abbrev pub TellsValue : ℕ → ℕ → ℕ → Subscriber → Result (Value × ℕ) Status → Type 0
TellsValue group reader field subscriber answer =
    Answers (HasBoth group reader field subscriber) (IsUntold HasNoMisfit group reader field subscriber) answer

abbrev pub TellsStatus : ℕ → ℕ → ℕ → Subscriber → Result ℕ Status → Type 0
TellsStatus group reader field subscriber answer =
    Answers (λ status. Keeps group reader (HasFieldStatus field status) subscriber) (IsUntold HasNoMisfit group reader field subscriber) answer

-- ---- texts, ByteStrings and Guids

-- C sees this of the value and the status of the field of the row that is held
pub record GetsValue (group reader field : ℕ) (old : Handle) (sees : Result (Value × ℕ) Status → Type 0) (new : Handle) : Type 0 where
  pub answer : Result (Value × ℕ) Status
  pub answered : Answered (OfSubscriber (Stays (TellsValue group reader field))) old answer new
  pub seen : sees answer

-- the bytes of a Guid stand where these stood; else they stay
abbrev pub SeesGuid : Result (Value × ℕ) Status → ℕ → GuidBytes → GuidBytes → Type 0
SeesGuid (Ok (Guid bytes, code)) number was is = (number ≡ 0) × (is.bytes ≡ bytes)
SeesGuid (Ok other) number was is = (number ≡ status_number Misfit) × (is ≡ was)
SeesGuid (Err status) number was is = (number ≡ status_number status) × (is ≡ was)

-- ---- scalars

-- the row that is held has at the field the scalar with this word, of the kind with this number, which is the field's own
pub record HasScalar (group reader field number : ℕ) (subscriber : Subscriber) (word : ℕ) : Type 0 where
  pub kind : Kind
  pub kind_is : kind_with number ≡ Some kind
  pub is_of : Keeps group reader (IsOfKind field kind) subscriber
  pub value_is : Keeps group reader (HasFieldValue field (scalar_in kind word)) subscriber

-- no kind has this number; there is no such field; no row is held; or the field isn't of the kind that has it, or that isn't a scalar's
abbrev pub IsWordUntold : ℕ → ℕ → ℕ → ℕ → Subscriber → Status → Type 0
IsWordUntold group reader field number subscriber NoKind = kind_with number ≡ None
IsWordUntold group reader field number subscriber Index = HasNoField group reader field subscriber
IsWordUntold group reader field number subscriber Nothing = Keeps group reader HoldsNone subscriber
IsWordUntold group reader field number subscriber Misfit =
    (kind : Kind) × (kind_with number ≡ Some kind) × Keeps group reader (IsOfOtherKind field kind) subscriber
IsWordUntold group reader field number subscriber other = ⊥

abbrev pub TellsWord : ℕ → ℕ → ℕ → ℕ → Subscriber → Result ℕ Status → Type 0
TellsWord group reader field number subscriber answer =
    Answers (HasScalar group reader field number subscriber) (IsWordUntold group reader field number subscriber) answer
