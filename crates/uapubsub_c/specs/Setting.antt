-- What a call of C sets, and why it sets nothing.
use Rattle.std.specs.Prelude.{◌≡◌, ℕ, ◌⊎◌, List, Ok, Err, None, Some, IsErr, Result}
use Rattle.ua_values.specs.declared.kind.Kind.{Kind}
use Rattle.ua_values.specs.declared.value.Value.{Value}
use Rattle.ua_values.specs.declared.value.Value.TheVariants.{ByteString, String}
use Rattle.ua_values.specs.Blobs.{blob_of}
use Rattle.ua_values.specs.Texts.{text_of}
use Rattle.ua_binary.specs.Types.{kind_with}
use Rattle.device.specs.Sides.{HasField, HasNoField, HasSet, HasSetStatus, HasSetWord, IsMisfit, IsStatusMisfit, IsWordMisfit}
use Rattle.device.specs.declared.publisher.Publisher.{Publisher}
use Rattle.uapubsub_c.specs.Answers.{IsLarge}
use Rattle.uapubsub_c.specs.declared.status.Status.{Status}
use Rattle.uapubsub_c.specs.declared.status.Status.TheVariants.{BadText, Index, Misfit, NoKind}

-- the publisher has the rows that it had, and nothing else of it changed
pub record SetsNothing (old new : Publisher) : Type 0 where
  pub rows : new.rows.items ≡ old.rows.items
  pub rest : new ≡ record old { rows = new.rows }

-- with UAP_OK the field was set, else no row changed, and this holds of the status
abbrev pub Sets : (Publisher → Publisher → Type 0) → (Publisher → Status → Type 0) → Publisher → Result Unit Status → Publisher → Type 0
Sets done why old (Ok value) new = done old new
Sets done why old (Err status) new = SetsNothing old new × why old status

-- there is no such data set or field; or it is there, and is a misfit
abbrev pub IsUnset : ℕ → ℕ → (Publisher → Type 0) → Publisher → Status → Type 0
IsUnset set field misfit publisher Index = (IsLarge set ⊎ IsLarge field) ⊎ HasNoField publisher.config.dataset set field
IsUnset set field misfit publisher Misfit = HasField publisher.config.dataset set field × misfit publisher
IsUnset set field misfit publisher other = ⊥

-- ---- values

-- the field may not have this value, Good
abbrev pub IsValueMisfit : ℕ → ℕ → Value → Publisher → Type 0
IsValueMisfit set field value publisher = IsMisfit publisher.config.dataset set field value 0

abbrev pub SetsValue : ℕ → ℕ → Value → Publisher → Result Unit Status → Publisher → Type 0
SetsValue set field value old answer new = Sets (HasSet set field value 0) (IsUnset set field (IsValueMisfit set field value)) old answer new

-- the bytes can't be read; or what they are isn't set
abbrev pub IsUnread : {E : Type 0} → (List ℕ → Result (List ℕ) E) → List ℕ → (List ℕ → Status → Type 0) → Status → Type 0
IsUnread reads bytes why status = ((status ≡ BadText) × IsErr (reads bytes)) ⊎ ((read : List ℕ) × (reads bytes ≡ Ok read) × why read status)

-- the field is set to the value that is made of what the bytes are read as
abbrev pub SetsRead : {E : Type 0} → (List ℕ → Result (List ℕ) E) → (List ℕ → Value) → ℕ → ℕ → List ℕ → Publisher → Result Unit Status → Publisher → Type 0
SetsRead reads made set field bytes old answer new =
    Sets (λ was is. (read : List ℕ) × (reads bytes ≡ Ok read) × HasSet set field (made read) 0 was is)
    (λ publisher. IsUnread reads bytes (λ read. IsUnset set field (IsValueMisfit set field (made read)) publisher)) old answer new

abbrev pub SetsText : ℕ → ℕ → List ℕ → Publisher → Result Unit Status → Publisher → Type 0
SetsText set field text old answer new = SetsRead text_of String set field text old answer new

abbrev pub SetsBytes : ℕ → ℕ → List ℕ → Publisher → Result Unit Status → Publisher → Type 0
SetsBytes set field bytes old answer new = SetsRead blob_of ByteString set field bytes old answer new

-- ---- scalars

-- the field was set to this word of the kind with this number, which is the field's own
pub record HasNumberedWord (set field number word : ℕ) (old new : Publisher) : Type 0 where
  pub kind : Kind
  pub kind_is : kind_with number ≡ Some kind
  pub is : HasSetWord set field kind word old new

-- no kind has this number; there is no such data set or field; or it is there, and may not have the scalar of that kind with this word
abbrev pub IsWordUnset : ℕ → ℕ → ℕ → ℕ → Publisher → Status → Type 0
IsWordUnset set field number word publisher NoKind = kind_with number ≡ None
IsWordUnset set field number word publisher Index = (IsLarge set ⊎ IsLarge field) ⊎ HasNoField publisher.config.dataset set field
IsWordUnset set field number word publisher Misfit =
    HasField publisher.config.dataset set field
    × ((kind : Kind) × (kind_with number ≡ Some kind) × IsWordMisfit publisher.config.dataset set field kind word)
IsWordUnset set field number word publisher other = ⊥

abbrev pub SetsWord : ℕ → ℕ → ℕ → ℕ → Publisher → Result Unit Status → Publisher → Type 0
SetsWord set field number word old answer new = Sets (HasNumberedWord set field number word) (IsWordUnset set field number word) old answer new

-- ---- statuses

-- the field may not have this status
abbrev pub IsCodeMisfit : ℕ → ℕ → ℕ → Publisher → Type 0
IsCodeMisfit set field status publisher = IsStatusMisfit publisher.config.dataset set field status

abbrev pub SetsStatus : ℕ → ℕ → ℕ → Publisher → Result Unit Status → Publisher → Type 0
SetsStatus set field status old answer new = Sets (HasSetStatus set field status) (IsUnset set field (IsCodeMisfit set field status)) old answer new
