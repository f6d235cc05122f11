-- What calls tell of a subscriber's readers.
use Rattle.std.specs.Prelude.{◌≡◌, ℕ, ◌-◌, ◌<◌, ◌≤◌, Bool, true, false, List, length, slice_set, Option, None, Some}
use Rattle.std.specs.List.{AllZip, HoldsAt}
use Rattle.ua_values.specs.declared.kind.Kind.{Kind}
use Rattle.ua_values.specs.declared.value.Value.{Value}
use Rattle.dataset_meta.specs.DataValues.{DataValue}
use Rattle.dataset_meta.specs.Metas.{MetaData}
use Rattle.row_words.specs.Setting.{HasStatus, HasValue}
use Rattle.pubsub_model.specs.declared.reading.Why.TheVariants.{Restarted}
use Rattle.dataset_reader.specs.declared.reader.Reader.{Reader}
use Rattle.dataset_reader.specs.Kept.{Kept}
use Rattle.dataset_reader.specs.Reader.{kept_by}
use Rattle.message_guard.specs.declared.keys.TokenKeys.{TokenKeys}
use Rattle.ps_config.specs.declared.parts.Config.{Config}
use Rattle.reader_group.specs.declared.group.ReaderGroup.{ReaderGroup}
use Rattle.reader_group.specs.declared.notice.Notice.{Notice}
use Rattle.reader_group.specs.declared.receipt.TokenNumber.{TokenNumber}
use Rattle.reader_group.specs.declared.refused.Refused.{Refused}
use Rattle.reader_group.specs.Groups as reads
use Rattle.reader_group.specs.Members.{seat_at}
use Rattle.reader_group.specs.Notices.{notice_at}
use Rattle.reader_group.specs.Plain.{Expired, Setting, Stopped}
use Rattle.reader_group.specs.Settings.{setting_of}
use Rattle.device.specs.declared.asked.NoValue.{NoValue}
use Rattle.device.specs.declared.asked.NoValue.TheVariants.{Misfit, NoField, NoRow}
use Rattle.device.specs.declared.listening.Listening.{Listening}
use Rattle.device.specs.declared.subscriber.Subscriber.{Subscriber}
use Rattle.device.specs.Sides.{IsScalarAt, KeepsNotes}

-- the meta of the data set of the reader with this index
abbrev pub meta_for : Config → Listening → ℕ → MetaData
meta_for config listening reader = (seat_at (setting_of config (reads.index_of listening.group)).seats reader).meta

-- what the reader with this index keeps, by the fields of its data set, is so
pub record ReaderKeeps (config : Config) (reader : ℕ) (says : MetaData → Kept → Type 0) (listening : Listening) : Type 0 where
  pub index : reader < reads.reader_count listening.group
  pub value : Reader
  pub is : reads.IsKeptAt listening.group reader value
  pub so : says (meta_for config listening reader) (kept_by (meta_for config listening reader).fields value)

-- the same of the reader with this index in the read group with this index
pub record Keeps (group reader : ℕ) (says : MetaData → Kept → Type 0) (subscriber : Subscriber) : Type 0 where
  pub within : group < length subscriber.groups.items
  pub is : HoldsAt (ReaderKeeps subscriber.config reader says) subscriber.groups.items group

-- this keeps what the reader with this index in the read group with this index keeps
pub record IsReaderAt (group reader : ℕ) (subscriber : Subscriber) (value : Reader) : Type 0 where
  pub within : group < length subscriber.groups.items
  pub index : HoldsAt (λ listening. reader < reads.reader_count listening.group) subscriber.groups.items group
  pub is : HoldsAt (λ listening. reads.IsKeptAt listening.group reader value) subscriber.groups.items group

-- where there is a read group with this index, it has no reader with this index
abbrev pub IsNoReader : ℕ → ℕ → Subscriber → Type 0
IsNoReader group reader subscriber =
    group < length subscriber.groups.items
    → HoldsAt (λ listening. reads.reader_count listening.group ≤ reader) subscriber.groups.items group

-- ---- what a reader keeps

-- the row that is held has this value at the field
pub record HasFieldValue (field : ℕ) (value : Value) (meta : MetaData) (kept : Kept) : Type 0 where
  pub within : field < length meta.fields
  pub row : List DataValue
  pub held : kept.row ≡ Some row
  pub value_is : HasValue row field value

-- the row that is held has this status at the field
pub record HasFieldStatus (field status : ℕ) (meta : MetaData) (kept : Kept) : Type 0 where
  pub within : field < length meta.fields
  pub row : List DataValue
  pub held : kept.row ≡ Some row
  pub status_is : HasStatus row field status

-- the field is of this kind, which is a scalar's
abbrev pub IsOfKind : ℕ → Kind → MetaData → Kept → Type 0
IsOfKind field kind meta kept = IsScalarAt meta field kind

-- the field is there, and isn't of this kind, or this isn't a scalar's
pub record IsOfOtherKind (field : ℕ) (kind : Kind) (meta : MetaData) (kept : Kept) : Type 0 where
  pub within : field < length meta.fields
  pub other : ¬ IsScalarAt meta field kind

-- no kind is asked for, so none is another
abbrev pub HasNoMisfit : MetaData → Kept → Type 0
HasNoMisfit meta kept = ⊥

-- no row is held
abbrev pub HoldsNone : MetaData → Kept → Type 0
HoldsNone meta kept = kept.row ≡ None

-- ---- how old a row is

-- the row of the reader with this index in the read group with this index was confirmed then, or no row is held
pub record IsConfirmedFor (group reader : ℕ) (confirmed : Option ℕ) (subscriber : Subscriber) : Type 0 where
  pub within : group < length subscriber.groups.items
  pub index : HoldsAt (λ listening. reader < reads.reader_count listening.group) subscriber.groups.items group
  pub is : HoldsAt (λ listening. reads.IsConfirmedAt listening.group reader confirmed) subscriber.groups.items group

-- where there is such a reader, no row of it is confirmed
abbrev pub IsUnconfirmed : ℕ → ℕ → Subscriber → Type 0
IsUnconfirmed group reader subscriber =
    group < length subscriber.groups.items
    → HoldsAt (λ listening. reader < reads.reader_count listening.group → reads.IsConfirmedAt listening.group reader None) subscriber.groups.items group

-- so many milliseconds have passed since the row was confirmed; none where that was later
pub record HasAge (group reader now age : ℕ) (subscriber : Subscriber) : Type 0 where
  pub moment : ℕ
  pub confirmed : IsConfirmedFor group reader (Some moment) subscriber
  pub age_is : age ≡ now - moment

-- the row is fresh at this moment: it is held, and no older than the bound
pub record IsFreshFor (group reader now bound : ℕ) (subscriber : Subscriber) : Type 0 where
  pub within : group < length subscriber.groups.items
  pub index : HoldsAt (λ listening. reader < reads.reader_count listening.group) subscriber.groups.items group
  pub is : HoldsAt (λ listening. reads.IsFreshAt listening.group reader now bound true) subscriber.groups.items group

-- where there is such a reader, its row isn't
abbrev pub IsStale : ℕ → ℕ → ℕ → ℕ → Subscriber → Type 0
IsStale group reader now bound subscriber =
    group < length subscriber.groups.items
    → HoldsAt (λ listening. reader < reads.reader_count listening.group → reads.IsFreshAt listening.group reader now bound false) subscriber.groups.items group

-- ---- what is refused, and what is noted

-- this is what the read group with this index refused
pub record HasRefused (group : ℕ) (subscriber : Subscriber) (refused : Refused) : Type 0 where
  pub within : group < length subscriber.groups.items
  pub is : HoldsAt (λ listening. refused ≡ reads.refused_of listening.group) subscriber.groups.items group

-- the token and the number of the last datagram that the read group with this index accepted under a security header, if there was one
pub record HasLastTaken (group : ℕ) (subscriber : Subscriber) (pair : Option TokenNumber) : Type 0 where
  pub within : group < length subscriber.groups.items
  pub is : HoldsAt (λ listening. reads.IsLastTaken listening.group pair) subscriber.groups.items group

-- this is noted of the reader with this index in the read group with this index
pub record IsNoticeFor (group reader : ℕ) (subscriber : Subscriber) (notice : Notice) : Type 0 where
  pub within : group < length subscriber.groups.items
  pub index : HoldsAt (λ listening. reader < reads.reader_count listening.group) subscriber.groups.items group
  pub is : HoldsAt (λ listening. notice ≡ notice_at (reads.notices_of listening.group) reader) subscriber.groups.items group

-- the read group with this index takes datagrams of this NetworkMessageNumber alone from now on, of any where it is 0, and nothing else changed
pub record HasNumber (group number : ℕ) (old new : Subscriber) : Type 0 where
  pub within : group < length old.groups.items
  pub is : HoldsAt (λ was. HoldsAt (λ is. is ≡ record was { number = number }) new.groups.items group) old.groups.items group
  pub others : HoldsAt (λ is. new.groups.items ≡ slice_set old.groups.items group is) new.groups.items group
  pub config : new.config ≡ old.config

-- ---- why nothing is told

-- where the read group has a reader with this index, its data set has no such field
abbrev pub ReadsNoField : Config → ℕ → ℕ → Listening → Type 0
ReadsNoField config reader field listening =
    reader < reads.reader_count listening.group → length (meta_for config listening reader).fields ≤ field

-- of a field of a reader of the read group: there is no such reader or field, no row is held, or it is a misfit
abbrev pub IsUntold : (MetaData → Kept → Type 0) → Config → ℕ → ℕ → NoValue → Listening → Type 0
IsUntold misfit config reader field NoField listening = ReadsNoField config reader field listening
IsUntold misfit config reader field NoRow listening = ReaderKeeps config reader HoldsNone listening
IsUntold misfit config reader field Misfit listening = ReaderKeeps config reader misfit listening

-- the same of the read group with this index, or there is no such read group
abbrev pub IsUntoldAt : (MetaData → Kept → Type 0) → ℕ → ℕ → ℕ → Subscriber → NoValue → Type 0
IsUntoldAt misfit group reader field subscriber NoField =
    group < length subscriber.groups.items
    → HoldsAt (ReadsNoField subscriber.config reader field) subscriber.groups.items group
IsUntoldAt misfit group reader field subscriber NoRow = Keeps group reader HoldsNone subscriber
IsUntoldAt misfit group reader field subscriber Misfit = Keeps group reader misfit subscriber

-- ---- time that goes on

-- the timers of a read group were looked at at this moment, and which of its readers are on stays
pub record HasExpired (now : ℕ) (old new : Listening) : Type 0 where
  pub group : (setting : Setting) → reads.TakesOn setting (Expired now) old.group new.group
  pub notes : KeepsNotes old new
  pub on : new.on ≡ old.on
  pub index : new.index ≡ old.index
  pub number : new.number ≡ old.number

-- the same of each read group, and nothing else changed
pub record HaveExpired (now : ℕ) (old new : Subscriber) : Type 0 where
  pub groups : AllZip (HasExpired now) old.groups.items new.groups.items
  pub config : new.config ≡ old.config

-- ---- keys that are renewed

-- a read group goes on with these keys, and which of its readers are on stays
pub record GoesOnWith (keys : List TokenKeys) (old new : Listening) : Type 0 where
  pub group : reads.GoesOnWith keys old.group new.group
  pub notes : KeepsNotes old new
  pub on : new.on ≡ old.on
  pub index : new.index ≡ old.index
  pub number : new.number ≡ old.number

-- the same of the read group with this index, and nothing else changed
pub record HasKeysRenewed (group : ℕ) (keys : List TokenKeys) (old new : Subscriber) : Type 0 where
  pub within : group < length old.groups.items
  pub is : HoldsAt (λ was. HoldsAt (λ is. GoesOnWith keys was is) new.groups.items group) old.groups.items group
  pub others : HoldsAt (λ is. new.groups.items ≡ slice_set old.groups.items group is) new.groups.items group
  pub config : new.config ≡ old.config

-- ---- readers that are switched on and off

-- a reader that is switched off is cut
abbrev pub HasGoneOff : ℕ → Bool → ReaderGroup → ReaderGroup → Type 0
HasGoneOff reader true old new = new ≡ old
HasGoneOff reader false old new = (setting : Setting) → reads.TakesOn setting (Stopped reader Restarted) old new

-- the reader with this index is on from now on, or off, and the others stay
pub record HasSwitchedReader (reader : ℕ) (on : Bool) (old new : Listening) : Type 0 where
  pub on_is : new.on.items ≡ slice_set old.on.items reader on
  pub group : HasGoneOff reader on old.group new.group
  pub notes : KeepsNotes old new
  pub index : new.index ≡ old.index
  pub number : new.number ≡ old.number

-- the same of a reader of the read group with this index, and nothing else changed
pub record HasReaderSwitched (group reader : ℕ) (on : Bool) (old new : Subscriber) : Type 0 where
  pub within : group < length old.groups.items
  pub is : HoldsAt (λ was. HoldsAt (λ is. HasSwitchedReader reader on was is) new.groups.items group) old.groups.items group
  pub others : HoldsAt (λ is. new.groups.items ≡ slice_set old.groups.items group is) new.groups.items group
  pub config : new.config ≡ old.config
