-- The sides of a device, between two calls.
use Rattle.std.specs.Prelude.{◌≡◌, ℕ, ◌+◌, ◌%◌, ◌^◌, ◌<◌, ◌≤◌, Bool, true, false, List, length, map, replicate, slice_get, slice_index_or, slice_set, vec_len, ◌⊎◌, All, Option, Some, None, option_map, Result}
use Rattle.std.specs.List.{AllZip, HoldsAt, range_with_len}
use Rattle.ua_values.specs.declared.value.Value.{Value}
use Rattle.dataset_meta.specs.DataValues.{DataValue, IsStatus}
use Rattle.dataset_meta.specs.Metas.{MetaData}
use Rattle.dataset_meta.specs.Rows.{FitsAt, opening_row}
use Rattle.ua_values.specs.declared.kind.Kind.{Kind}
use Rattle.row_words.specs.Belonging.{row_in}
use Rattle.row_words.specs.declared.row.Row.{Row}
use Rattle.row_words.specs.Setting.{with_status, with_value}
use Rattle.row_words.specs.Words.{IsWordOf, is_scalar, scalar_in}
use Rattle.group_keys.specs.declared.key_set.KeySet.{KeySet}
use Rattle.group_keys.specs.KeySets.{current}
use Rattle.group_keys.specs.Ring.{key_sets}
use Rattle.group_keys.specs.declared.ring.Ring.{Ring}
use Rattle.message_guard.specs.Protection.{keys_in}
use Rattle.message_guard.specs.Senders.{SenderState, IsSender, renewed}
use Rattle.ps_config.specs.declared.parts.Config.{Config}
use Rattle.ps_config.specs.declared.parts.KeyGroupPart.{KeyGroupPart}
use Rattle.ps_config.specs.Configs.{is_long}
use Rattle.ps_config.specs.Headers.{mode_of}
use Rattle.ps_config.specs.Rings.{key_set}
use Rattle.reader_group.specs.Groups as reads
use Rattle.reader_group.specs.Filter.{takes_number}
use Rattle.reader_group.specs.Plain.{Got}
use Rattle.reader_group.specs.Refused.{none_refused, refused_on}
use Rattle.reader_group.specs.declared.refusal.Refusal.{Refusal}
use Rattle.reader_group.specs.declared.refusal.Taken.{Taken}
use Rattle.writer_group.specs.declared.datagrams.Datagrams.{Datagrams}
use Rattle.writer_group.specs.declared.group.Group.{Group}
use Rattle.writer_group.specs.declared.sampled.Sampled.{Sampled}
use Rattle.writer_group.specs.Parts.{group_at}
use Rattle.writer_group.specs.Sealing.{advanced_by}
use Rattle.writer_group.specs.Standing.{AreLogged, AreRowsOf, HasRoom, HasTickedAt, IsFreshAt, IsGood, IsRefreshed, KeepsTo, MayTickAt, MayTurnAt, datagrams_in, index_of, input_of, writer_count}
use Rattle.device.specs.declared.listening.Listening.{Listening}
use Rattle.device.specs.declared.publisher.Publisher.{Publisher}
use Rattle.device.specs.declared.side.Side.{Side}
use Rattle.device.specs.declared.subscriber.Subscriber.{Subscriber}

-- ---- a group of writers

-- its group is of this configuration, at this place, and may have a turn as soon as what the turn is given is in order
pub record IsSide (config : Config) (side : Side) : Type 0 where
  pub index : index_of side.group ≡ side.index
  pub keeps_to : KeepsTo config side.group

-- how many turns a group has in its life at most
abbrev pub most_turns : ℕ
most_turns = 2 ^ 62

-- the group with this index before its first turn, all of whose writers are on: it may have all turns of a life, of whichever metas, and logs none of them
pub record IsOpeningSide (config : Config) (index : ℕ) (side : Side) : Type 0 where
  pub index_is : side.index ≡ index
  pub fresh : IsFreshAt config index side.group
  pub may_turn : MayTurnAt config index most_turns side.group
  pub unlogged : AreLogged 0 side.group
  pub on : side.on.items ≡ replicate (length (group_at config index).writer) true

-- one of each group of the configuration, in its order
abbrev pub AreOpeningSides : Config → List Side → Type 0
AreOpeningSides config sides = AllZip (IsOpeningSide config) (range_with_len 0 (length config.group)) sides

-- the sender at the place, if there is one
abbrev pub nth_sender : List SenderState → Option ℕ → Option SenderState
nth_sender senders None = None
nth_sender senders (Some k) = slice_get senders k

-- the sender of the group's key group, if it is secured
abbrev pub sender_for : Config → List SenderState → ℕ → Option SenderState
sender_for config senders index = nth_sender senders (group_at config index).keygroup

-- it had a turn at this moment with these rows, and so many datagrams came of it
pub record HasTurned (config : Config) (moment : ℕ) (rows : List Sampled) (sender : Option SenderState) (old new : Side) (out : Datagrams)
    (made : ℕ) : Type 0 where
  pub stands : HasTickedAt config (input_of moment false config.dataset rows old.on.items sender) old.group new.group out
  pub made_is : made ≡ length (datagrams_in out)
  pub on : new.on ≡ old.on
  pub index : new.index ≡ old.index

-- the group may have a turn with these rows and this sender
abbrev pub MayTurn : Config → List Sampled → Option SenderState → Side → Type 0
MayTurn config rows sender side = MayTickAt config config.dataset rows side.on.items sender side.group

-- it may have none
abbrev pub MayNotTurn : Config → List Sampled → Option SenderState → Side → Type 0
MayNotTurn config rows sender side = ¬ MayTurn config rows sender side

-- the sender with a front given for each of so many datagrams of the group with this index
abbrev pub numbered : Config → ℕ → ℕ → SenderState → SenderState
numbered config index made sender = advanced_by (mode_of (group_at config index).security) sender made

-- the sender at the place became what this makes of it, and the others stay; without a place all stay
abbrev pub IsBecome : Option ℕ → (SenderState → SenderState) → List SenderState → List SenderState → Type 0
IsBecome None change old new = new ≡ old
IsBecome (Some k) change old new = HoldsAt (λ sender. new ≡ slice_set old k (change sender)) old k

-- the group with this index made so many datagrams: each took the next number of the sender of its key group, if it is secured, and the other senders stay
abbrev pub HasNumbered : Config → ℕ → ℕ → List SenderState → List SenderState → Type 0
HasNumbered config index made old new = IsBecome (group_at config index).keygroup (numbered config index made) old new

-- the group has a writer with this index
pub record HasWriter (writer : ℕ) (side : Side) : Type 0 where
  pub on : writer < length side.on.items
  pub group : writer < writer_count side.group

-- the next frame of a writer that is switched on is a key frame
abbrev pub HasComeOn : ℕ → Bool → Group → Group → Type 0
HasComeOn writer true old new = IsRefreshed writer old new
HasComeOn writer false old new = new ≡ old

-- the writer with this index is on from now on, or off, and the others stay
pub record HasSwitched (writer : ℕ) (on : Bool) (old new : Side) : Type 0 where
  pub on_is : new.on.items ≡ slice_set old.on.items writer on
  pub group : HasComeOn writer on old.group new.group
  pub index : new.index ≡ old.index

-- ---- a publisher

-- the opening row of the data set, which was not set yet
pub record IsOpeningRow (meta : MetaData) (sampled : Sampled) : Type 0 where
  pub row : row_in meta.fields sampled.row.words ≡ opening_row meta.fields
  pub version_is : sampled.version ≡ 0

-- the ring has the key sets of the sender
abbrev pub HasRing : SenderState → Ring → Type 0
HasRing sender ring = key_sets ring ≡ sender.sets

-- each stands at its index
abbrev pub ArePlaced : List Side → Type 0
ArePlaced sides = (place : ℕ) (d : Side) → place < length sides → (slice_index_or sides place d).index ≡ place

pub record IsPublisher (publisher : Publisher) : Type 0 where
  pub good : IsGood publisher.config
  pub rows_are : AreRowsOf publisher.config.dataset publisher.rows.items
  pub rows_count : length publisher.rows.items ≡ length publisher.config.dataset
  pub senders_are : All IsSender publisher.senders.items
  pub senders_count : length publisher.senders.items ≡ length publisher.config.keygroup
  pub rings_are : AllZip HasRing publisher.senders.items publisher.rings.items
  pub sides_are : All (IsSide publisher.config) publisher.sides.items
  pub places : ArePlaced publisher.sides.items
  pub reserved : HasRoom publisher.config publisher.out
  pub made_is : publisher.made ≡ length (datagrams_in publisher.out)
  pub handed_is : publisher.handed ≤ publisher.made

-- the row was set once more, which its version counts in 64 bits
abbrev pub IsSetAgain : Sampled → Sampled → Type 0
IsSetAgain was is = is.version ≡ (was.version + 1) % 2 ^ 64

-- the row of the data set has this value and this status at the field, and the other data sets' rows stay
pub record HasRowSet (metas : List MetaData) (set field : ℕ) (value : Value) (status : ℕ) (old new : List Sampled) : Type 0 where
  pub within : set < length metas
  pub row : HoldsAt (λ meta. HoldsAt (λ was. HoldsAt (λ is. row_in meta.fields is.row.words
      ≡ slice_set (row_in meta.fields was.row.words) field (record { value = value; status = status }))
      new set) old set) metas set
  pub version : HoldsAt (λ was. HoldsAt (IsSetAgain was) new set) old set
  pub others : HoldsAt (λ is. new ≡ slice_set old set is) new set

-- the same, and nothing else changed
pub record HasSet (set field : ℕ) (value : Value) (status : ℕ) (old new : Publisher) : Type 0 where
  pub rows : HasRowSet old.config.dataset set field value status old.rows.items new.rows.items
  pub rest : new ≡ record old { rows = new.rows }

-- the field is there, and of this kind, which is a scalar's
pub record IsScalarAt (meta : MetaData) (field : ℕ) (kind : Kind) : Type 0 where
  pub within : field < length meta.fields
  pub kind_is : HoldsAt (λ f. f.kind ≡ kind) meta.fields field
  pub scalar : is_scalar kind ≡ true

-- the row of the data set has at the field, which is of this kind, the scalar with this word, and the other data sets' rows stay
pub record HasWordSet (metas : List MetaData) (set field : ℕ) (kind : Kind) (word : ℕ) (old new : List Sampled) : Type 0 where
  pub within : set < length metas
  pub kind_is : HoldsAt (λ meta. IsScalarAt meta field kind) metas set
  pub row : HoldsAt (λ meta. HoldsAt (λ was. HoldsAt (λ is. row_in meta.fields is.row.words
      ≡ with_value (row_in meta.fields was.row.words) field (scalar_in kind word))
      new set) old set) metas set
  pub version : HoldsAt (λ was. HoldsAt (IsSetAgain was) new set) old set
  pub others : HoldsAt (λ is. new ≡ slice_set old set is) new set

-- the same, and nothing else changed
pub record HasSetWord (set field : ℕ) (kind : Kind) (word : ℕ) (old new : Publisher) : Type 0 where
  pub rows : HasWordSet old.config.dataset set field kind word old.rows.items new.rows.items
  pub rest : new ≡ record old { rows = new.rows }

-- the row of the data set has this status at the field, with the value that was there, and the other data sets' rows stay
pub record HasRowStatus (metas : List MetaData) (set field status : ℕ) (old new : List Sampled) : Type 0 where
  pub within : set < length metas
  pub row : HoldsAt (λ meta. HoldsAt (λ was. HoldsAt (λ is. row_in meta.fields is.row.words
      ≡ with_status (row_in meta.fields was.row.words) field status)
      new set) old set) metas set
  pub version : HoldsAt (λ was. HoldsAt (IsSetAgain was) new set) old set
  pub others : HoldsAt (λ is. new ≡ slice_set old set is) new set

-- the same, and nothing else changed
pub record HasSetStatus (set field status : ℕ) (old new : Publisher) : Type 0 where
  pub rows : HasRowStatus old.config.dataset set field status old.rows.items new.rows.items
  pub rest : new ≡ record old { rows = new.rows }

-- the field is there, and may have this status
pub record MayHaveStatus (meta : MetaData) (field status : ℕ) : Type 0 where
  pub within : field < length meta.fields
  pub is_status : IsStatus meta.quality status

-- ---- what is read back

-- the row of the data set with this index, by the fields of its meta, is so
pub record RowIs (set : ℕ) (so : List DataValue → Type 0) (metas : List MetaData) (rows : List Sampled) : Type 0 where
  pub within : set < length metas
  pub is : HoldsAt (λ meta. HoldsAt (λ sampled. so (row_in meta.fields sampled.row.words)) rows set) metas set

-- where there is a data set with this index, its field isn't there, or isn't of this kind, or this isn't a scalar's
abbrev pub HasNoScalar : List MetaData → ℕ → ℕ → Kind → Type 0
HasNoScalar metas set field kind = set < length metas → HoldsAt (λ meta. ¬ IsScalarAt meta field kind) metas set

-- it is the row of the data set with this index
pub record IsRowAt (set : ℕ) (publisher : Publisher) (row : Row) : Type 0 where
  pub within : set < length publisher.rows.items
  pub is : HoldsAt (λ sampled. row ≡ sampled.row) publisher.rows.items set

-- ---- what isn't set

-- there is a data set with this index, and a field with this index in it
pub record HasField (metas : List MetaData) (set field : ℕ) : Type 0 where
  pub within : set < length metas
  pub has : HoldsAt (λ meta. field < length meta.fields) metas set

-- where there is a data set with this index, it has no field with this index
abbrev pub HasNoField : List MetaData → ℕ → ℕ → Type 0
HasNoField metas set field = set < length metas → HoldsAt (λ meta. length meta.fields ≤ field) metas set

-- where there is a data set with this index, its field isn't there, or may not have this value with this status
abbrev pub IsMisfit : List MetaData → ℕ → ℕ → Value → ℕ → Type 0
IsMisfit metas set field value status = set < length metas → HoldsAt (λ meta. ¬ FitsAt meta field value status) metas set

-- the field is there, and of this kind, which is a scalar's that may have this word
pub record MayHaveWord (meta : MetaData) (field : ℕ) (kind : Kind) (word : ℕ) : Type 0 where
  pub kind_is : IsScalarAt meta field kind
  pub word_is : IsWordOf kind word

-- where there is a data set with this index, its field may not have the scalar of this kind with this word
abbrev pub IsWordMisfit : List MetaData → ℕ → ℕ → Kind → ℕ → Type 0
IsWordMisfit metas set field kind word = set < length metas → HoldsAt (λ meta. ¬ MayHaveWord meta field kind word) metas set

-- where there is a data set with this index, its field may not have this status
abbrev pub IsStatusMisfit : List MetaData → ℕ → ℕ → ℕ → Type 0
IsStatusMisfit metas set field status = set < length metas → HoldsAt (λ meta. ¬ MayHaveStatus meta field status) metas set

-- the writer of the group with this index is on from now on, or off, and nothing else changed
pub record HasWriterSwitched (group writer : ℕ) (on : Bool) (old new : Publisher) : Type 0 where
  pub within : group < length old.sides.items
  pub has : HoldsAt (HasWriter writer) old.sides.items group
  pub is : HoldsAt (λ was. HoldsAt (λ is. HasSwitched writer on was is) new.sides.items group) old.sides.items group
  pub others : HoldsAt (λ is. new.sides.items ≡ slice_set old.sides.items group is) new.sides.items group
  pub rest : new ≡ record old { sides = new.sides }

-- where there is a group with this index, it has no writer with this index
abbrev pub HasNoWriter : ℕ → ℕ → Publisher → Type 0
HasNoWriter group writer publisher =
    group < length publisher.sides.items → HoldsAt (λ side. ¬ HasWriter writer side) publisher.sides.items group

-- the sender of the key group is at this token, with this number used last
pub record StandsAt (keygroup : ℕ) (publisher : Publisher) (standing : ℕ × ℕ) : Type 0 where
  pub within : keygroup < length publisher.senders.items
  pub is : HoldsAt (λ sender. standing ≡ (sender.keys.token, sender.used)) publisher.senders.items keygroup

-- the sender of the key group goes on with these key sets, and nothing else changed
pub record HasRenewed (keygroup : ℕ) (sets : List KeySet) (old new : Publisher) : Type 0 where
  pub within : keygroup < length old.senders.items
  pub is : HoldsAt (λ sender. new.senders.items ≡ slice_set old.senders.items keygroup (renewed sender sets)) old.senders.items keygroup
  pub rest : new ≡ record old { senders = new.senders; rings = new.rings }

-- of two tokens with the number used last under each, the second is that of a later token, or of the same one with no lower number
abbrev pub IsNoLower : ℕ × ℕ → ℕ × ℕ → Type 0
IsNoLower old new = (old.0 < new.0) ⊎ ((old.0 ≡ new.0) × (old.1 ≤ new.1))

-- the same of two senders, by the token in use of each
abbrev pub IsNoLess : SenderState → SenderState → Type 0
IsNoLess was is = IsNoLower (was.keys.token, was.used) (is.keys.token, is.used)

-- the key sets that the configuration gives the key group
abbrev pub configured_sets : KeyGroupPart → List KeySet
configured_sets part = map key_set part.key

-- the ring has these key sets
abbrev pub IsConfiguredRing : KeyGroupPart → Ring → Type 0
IsConfiguredRing part ring = key_sets ring ≡ configured_sets part

-- the sender of this key group that goes on behind so many numbers of the last of these key sets whose moment has come at this moment
pub record IsResumed (part : KeyGroupPart) (sets : List KeySet) (now used : ℕ) (sender : SenderState) : Type 0 where
  pub sets_are : sender.sets ≡ sets
  pub keys : option_map keys_in (current sets now) ≡ Some sender.keys
  pub random : sender.random ≡ part.random
  pub first_block : sender.first_block ≡ part.first_block
  pub used_is : sender.used ≡ used
  pub unfronted : sender.fronted ≡ None

-- the first sender of the key group: it goes on behind the numbers that the configuration tells of, with the key set of moment 0
abbrev pub IsOpeningSender : KeyGroupPart → SenderState → Type 0
IsOpeningSender part sender = IsResumed part (configured_sets part) 0 part.used sender

-- ---- the lengths of keys

-- whether the key group with this index has keys of AES-256
pub record HasLongKeys (config : Config) (keygroup : ℕ) (long : Bool) : Type 0 where
  pub within : keygroup < length config.keygroup
  pub is : HoldsAt (λ part. long ≡ is_long part.policy) config.keygroup keygroup

-- the read group with this index is secured with the keys of this key group
pub record IsKeyedBy (config : Config) (group keygroup : ℕ) : Type 0 where
  pub within : group < length config.readgroup
  pub is : HoldsAt (λ part. part.keygroup ≡ Some keygroup) config.readgroup group

-- where there is a read group with this index, it isn't secured
abbrev pub IsUnkeyed : Config → ℕ → Type 0
IsUnkeyed config group =
    group < length config.readgroup → HoldsAt (λ part. part.keygroup ≡ None) config.readgroup group

-- whether the read group with this index is secured with keys of AES-256
pub record ReadsLongKeys (config : Config) (group : ℕ) (long : Bool) : Type 0 where
  pub keygroup : ℕ
  pub keyed : IsKeyedBy config group keygroup
  pub is : HasLongKeys config keygroup long

-- where there is a read group with this index, it isn't secured with the keys of a key group that is there
abbrev pub ReadsNoKeys : Config → ℕ → Type 0
ReadsNoKeys config group =
    (keygroup : ℕ) → IsKeyedBy config group keygroup → length config.keygroup ≤ keygroup

-- where there is a key group with this index, its keys are as long
abbrev pub FitsKeyGroup : Config → ℕ → Bool → Type 0
FitsKeyGroup config keygroup long = keygroup < length config.keygroup → HasLongKeys config keygroup long

-- the read group with this index is secured with keys as long, or isn't secured, or not there
abbrev pub FitsReadGroup : Config → ℕ → Bool → Type 0
FitsReadGroup config group long = ReadsLongKeys config group long ⊎ ReadsNoKeys config group

-- ---- a subscriber

-- its group is of this configuration, at this place, with a truth value for each reader
pub record IsListening (config : Config) (listening : Listening) : Type 0 where
  pub made : reads.IsMadeOf config listening.group
  pub index : reads.index_of listening.group ≡ listening.index
  pub on : length listening.on.items ≡ reads.reader_count listening.group

-- the read group with this index before anything, all of whose readers are on
pub record IsOpeningListening (config : Config) (index : ℕ) (listening : Listening) : Type 0 where
  pub index_is : listening.index ≡ index
  pub opening : reads.IsOpening config index listening.group
  pub on : listening.on.items ≡ replicate (reads.reader_count listening.group) true
  pub any_number : listening.number ≡ 0
  pub none_refused : reads.refused_of listening.group ≡ none_refused
  pub none_noted : reads.notices_of listening.group ≡ reads.no_notices

-- one of each read group of the configuration, in its order
abbrev pub AreOpeningListenings : Config → List Listening → Type 0
AreOpeningListenings config groups =
    AllZip (IsOpeningListening config) (range_with_len 0 (length config.readgroup)) groups

pub record IsSubscriber (subscriber : Subscriber) : Type 0 where
  pub good : IsGood subscriber.config
  pub groups_are : All (IsListening subscriber.config) subscriber.groups.items
  pub few : length subscriber.groups.items ≤ 4
  pub room : vec_len subscriber.room ≡ 65536

-- the read group takes datagrams of this one's NetworkMessageNumber
abbrev pub TakesNumber : ℕ → List ℕ → Subscriber → Type 0
TakesNumber group datagram subscriber = HoldsAt (λ listening. takes_number listening.number datagram ≡ true) subscriber.groups.items group

-- it takes those of another alone
abbrev pub PassesNumber : ℕ → List ℕ → Subscriber → Type 0
PassesNumber group datagram subscriber = HoldsAt (λ listening. takes_number listening.number datagram ≡ false) subscriber.groups.items group

-- what the read group refused, and what it noted of its readers, stays
pub record KeepsNotes (old new : Listening) : Type 0 where
  pub refused : reads.refused_of new.group ≡ reads.refused_of old.group
  pub notices : reads.notices_of new.group ≡ reads.notices_of old.group

-- what the read group refused is kept: the last refusal with its sender, and how many there were
abbrev pub NotesRefusal : Result Taken Refusal → List ℕ → Listening → Listening → Type 0
NotesRefusal answer datagram old new = reads.refused_of new.group ≡ refused_on (reads.refused_of old.group) answer datagram

-- a datagram came to the read group at this moment. Where the group takes its number, the group stepped as by the plain reading, and so were its answer, what is noted of
-- its readers and what is left of the bytes; where it doesn't, all that the plain reading has stayed, and so did the bytes. Which of its readers are on, and the others, stayed.
pub record HasListened (group now : ℕ) (datagram left : List ℕ) (old new : Subscriber) (answer : Result Taken Refusal) : Type 0 where
  pub within : group < length old.groups.items
  pub step : TakesNumber group datagram old → HoldsAt (λ was. HoldsAt (λ is. reads.StepsBy old.config (Got now was.on.items datagram) was.group is.group) new.groups.items group)
      old.groups.items group
  pub answer_is : TakesNumber group datagram old → HoldsAt (λ was. reads.IsAnswer old.config was.group now was.on.items datagram answer) old.groups.items group
  pub bytes : TakesNumber group datagram old → HoldsAt (λ was. reads.AreLeft old.config was.group datagram left) old.groups.items group
  pub notices : TakesNumber group datagram old → HoldsAt (λ was. HoldsAt (λ is. reads.AreNoticed old.config was.group now was.on.items datagram is.group) new.groups.items group)
      old.groups.items group
  pub passed : PassesNumber group datagram old → HoldsAt (λ was. HoldsAt (λ is. reads.PassedDatagram was.group is.group datagram left answer) new.groups.items group)
      old.groups.items group
  pub refused : HoldsAt (λ was. HoldsAt (NotesRefusal answer datagram was) new.groups.items group) old.groups.items group
  pub rest : HoldsAt (λ was. HoldsAt (λ is. is ≡ record was { group = is.group }) new.groups.items group) old.groups.items group
  pub others : HoldsAt (λ is. new.groups.items ≡ slice_set old.groups.items group is) new.groups.items group
  pub config : new.config ≡ old.config
