-- Where a group stands after what it lived through, and the conditions of its turns.
use Rattle.std.specs.Prelude.{◌≡◌, ◌≢◌, ℕ, ◌+◌, ◌%◌, ◌^◌, ◌<◌, ◌≤◌, Bool, true, false, List, [], ◌∷◌, length, map, slice_range, All, Option, option_map, is_some, IfSome, vec_len, vec_capacity, ⊤}
use Rattle.std.specs.List.{HoldsAt, AllZip}
use Rattle.seq_number.specs.Numbers.{number_of_place}
use Rattle.dataset_meta.specs.Metas.{MetaData}
use Rattle.row_words.specs.Belonging.{Belongs}
use Rattle.dataset_writer.specs.declared.writer.Writer.{Writer}
use Rattle.dataset_writer.specs.Standing.{IsWriter, HoldsRowOf, KeepsAll, logged_by, next_place_of}
use Rattle.message_guard.specs.Senders.{SenderState, IsSender, numbers_left}
use Rattle.ps_config.specs.declared.parts.Config.{Config}
use Rattle.ps_config.specs.declared.parts.GroupPart.{GroupPart}
use Rattle.ps_config.specs.Beginning.{config_beginning, group_beginning}
use Rattle.ps_config.specs.Headers.{is_secured, mode_of, publisher_value}
use Rattle.ps_config.specs.Rooms.{header_settings, is_fixed, lacks_room}
use Rattle.ps_config.specs.Sound.{IsSound}
use Rattle.ps_config.specs.FixedSound.{IsFixedSound}
use Rattle.writer_group.specs.declared.datagrams.Datagrams.{Datagrams}
use Rattle.writer_group.specs.declared.group.Group.{Group}
use Rattle.writer_group.specs.declared.posting.Range.{Range}
use Rattle.writer_group.specs.declared.sampled.Sampled.{Sampled}
use Rattle.writer_group.specs.Answering.{HasLived, LogsStay}
use Rattle.writer_group.specs.Leads.{AreLeadsOf}
use Rattle.writer_group.specs.Payloads.{meta_at, writer_at, fixed_header, payloads_of, IsFrameIf}
use Rattle.writer_group.specs.Sealing.{AreWritten, advanced_by}
use Rattle.writer_group.specs.Setup.{AreSlotsOf, rooms_of}
use Rattle.writer_group.specs.Turns.{answer_by, GroupDeed, HadGroupTurn, RefreshedWriter, is_due, told_of, writer_past, settings_of, made_in, last_moment, TurnInput, envelope_of, frames_in, turn_datagrams, turned}
use Rattle.writer_group.specs.declared.need.Need.{Need}
use Rattle.writer_group.specs.Limits.{datagrams_bytes, frames_bytes, most_datagrams}
use Rattle.writer_group.specs.Needs.{largest_need, need_with}

-- ---- the datagrams in their bytes

abbrev pub datagram_in : List ℕ → Range → List ℕ
datagram_in bytes range = slice_range bytes range.start range.end

-- the datagrams of the last turn, in order
abbrev pub datagrams_in : Datagrams → List (List ℕ)
datagrams_in out = map (datagram_in out.bytes.items) out.ranges.items

-- ---- a group

-- its index in the configuration, and how many writers it has
abbrev pub index_of : Group → ℕ
index_of group = group.index

abbrev pub writer_count : Group → ℕ
writer_count group = vec_len group.writers

-- it was made for this group of the configuration
pub record IsMadeFor (config : Config) (part : GroupPart) (group : Group) : Type 0 where
  pub interval : group.interval ≡ part.interval
  pub start : group.slots.start ≡ fixed_header config.publisher.id part
  pub writers : vec_len group.writers ≡ length part.writer
  pub slots : AreSlotsOf config part group.slots
  pub rooms : group.rooms ≡ rooms_of config.publisher.id part
  pub leads : AreLeadsOf (publisher_value config.publisher.id) (header_settings part) group.leads

-- where these deeds leave it; `metas` has for the index of each writer the meta of its turns since its last refresh
pub record IsGroup (metas : ℕ → MetaData) (part : GroupPart) (past : List GroupDeed) (group : Group) : Type 0 where
  pub writers : (writer : ℕ) → writer < length part.writer
      → HoldsAt (IsWriter (metas writer) (settings_of (writer_at part writer)) (writer_past writer past)) group.writers.items writer
  pub made : group.made ≡ number_of_place (made_in past)
  pub moment : group.turned_at ≡ last_moment past

-- Each writer may have so many turns more, the row that it keeps is of its meta, and some deeds leave it as it is. `IsGroup` with any past
-- has that, so a turn is allowed also where the past isn't known.
pub record MayGoOn (metas : ℕ → MetaData) (part : GroupPart) (turns : ℕ) (group : Group) : Type 0 where
  pub left : All (λ writer. turns ≤ writer.left) group.writers.items
  pub holds : (writer : ℕ) → writer < vec_len group.writers → HoldsAt (HoldsRowOf (metas writer)) group.writers.items writer
  pub lived : (writer : ℕ) → writer < vec_len group.writers
      → HoldsAt (HasLived (metas writer) (settings_of (writer_at part writer))) group.writers.items writer

-- but for this writer, the first writers have the same metas
abbrev pub AreSameBut : ℕ → ℕ → (ℕ → MetaData) → (ℕ → MetaData) → Type 0
AreSameBut index count metas others = (writer : ℕ) → writer < count → writer ≢ index → others writer ≡ metas writer

-- ---- the conditions of a turn

pub record IsGood (config : Config) : Type 0 where
  pub sound : IsSound config
  pub fixed : IsFixedSound config

-- the metas of the moment: as many as the configuration's; those of a fixed group's writers are the configuration's; and else such that its turns need no
-- more than 1,024 datagrams
pub record AreMetas (config : Config) (part : GroupPart) (metas : List MetaData) : Type 0 where
  pub count : length metas ≡ length config.dataset
  pub fixed : is_fixed part.layout ≡ true → (writer : ℕ) → writer < length part.writer
      → meta_at part metas writer ≡ meta_at part config.dataset writer
  pub room : lacks_room config.publisher.id metas part ≡ false

-- a row of each data set's meta, and a truth value for each writer
pub record AreSampled (part : GroupPart) (metas : List MetaData) (rows : List Sampled) (on : List Bool) : Type 0 where
  pub rows_are : AllZip (λ meta sampled. Belongs meta sampled.row.words) metas rows
  pub on_are : length on ≡ length part.writer

-- the sender is there exactly where the group is secured, and isn't spent
pub record IsSenderFor (part : GroupPart) (sender : Option SenderState) : Type 0 where
  pub there : is_some sender ≡ is_secured part.security
  pub sender_is : IfSome sender IsSender
  pub unspent : IfSome sender (λ s. most_datagrams ≤ numbers_left s)

-- ---- the memory of a turn

-- a datagram within so many bytes
pub record IsWithinBuffer (end : ℕ) (range : Range) : Type 0 where
  pub rising : range.start ≤ range.end
  pub within : range.end ≤ end

-- the datagrams of the last turn are within their bytes, and there are no more bytes than a turn can fill
pub record AreWithin (out : Datagrams) : Type 0 where
  pub frames : vec_len out.spelled ≤ frames_bytes
  pub bytes : vec_len out.bytes ≤ datagrams_bytes
  pub ranges : All (IsWithinBuffer (vec_len out.bytes)) out.ranges.items

-- it has room for a turn that needs so much
pub record HasRoomOf (need : Need) (out : Datagrams) : Type 0 where
  pub within : AreWithin out
  pub frames : need.frames ≤ vec_len out.spelled
  pub bytes : need.bytes ≤ vec_len out.bytes
  pub loads : need.datagrams ≤ vec_capacity out.loads
  pub ranges : need.datagrams ≤ vec_capacity out.ranges

-- for the turns of the groups of a configuration, with these metas of its data sets
abbrev pub HasRoomFor : Config → List MetaData → Datagrams → Type 0
HasRoomFor config metas out = HasRoomOf (need_with config metas) out

-- for those with the metas of the configuration, as `for_config` reserves it
abbrev pub HasRoom : Config → Datagrams → Type 0
HasRoom config out = HasRoomFor config config.dataset out

-- for the largest turn of any group of any configuration, as `new` reserves it
abbrev pub IsReserved : Datagrams → Type 0
IsReserved out = HasRoomOf largest_need out

-- whatever turns the old one had room for, the new one has
abbrev pub KeepsRoom : Datagrams → Datagrams → Type 0
KeepsRoom old new = (need : Need) → HasRoomOf need old → HasRoomOf need new

-- ---- a turn

-- what a turn is given
abbrev pub input_of : ℕ → Bool → List MetaData → List Sampled → List Bool → Option SenderState → TurnInput
input_of now closing metas rows on sender = record { told = told_of now closing metas rows; on = on; sender = sender }

-- the metas of the writers
abbrev pub metas_for : GroupPart → List MetaData → ℕ → MetaData
metas_for part metas writer = meta_at part metas writer

-- the conditions of a turn of the group with this part of the configuration
pub record MayTick (config : Config) (metas : List MetaData) (rows : List Sampled) (on : List Bool) (sender : Option SenderState) (group : Group)
    (part : GroupPart) : Type 0 where
  pub made : IsMadeFor config part group
  pub metas_are : AreMetas config part metas
  pub sampled : AreSampled part metas rows on
  pub goes_on : MayGoOn (metas_for part metas) part 1 group
  pub sender_is : IsSenderFor part sender

-- What of the conditions can be tested. There are as many rows as data sets and as many truth values as writers. Each writer has a turn
-- left. The sender is there exactly where the group is secured, and isn't spent.
pub record IsInOrder (config : Config) (part : GroupPart) (rows : List Sampled) (on : List Bool) (sender : Option SenderState) (group : Group) : Type 0 where
  pub rows_are : length rows ≡ length config.dataset
  pub on_are : length on ≡ vec_len group.writers
  pub left : All (λ writer. 1 ≤ writer.left) group.writers.items
  pub sender_is : IsSenderFor part sender

-- a turn after these deeds: the datagrams, that none is longer than the group's largest, that their headers can be written, that what each writer answers is a
-- frame of its data set, and where it leaves the group
pub record HasTicked (config : Config) (part : GroupPart) (past : List GroupDeed) (input : TurnInput) (after : Group) (out : Datagrams) : Type 0 where
  pub datagrams : datagrams_in out ≡ turn_datagrams config part past input
  pub written : AreWritten (envelope_of config part past) input.sender 0 (payloads_of config part (frames_in part past input))
  pub short : All (λ datagram. length datagram ≤ part.max_size) (turn_datagrams config part past input)
  pub answers : (writer : ℕ) → IsFrameIf (writer_at part writer) (meta_at part input.told.metas writer) (answer_by part past input writer)
  pub stands : IsGroup (metas_for part input.told.metas) part (HadGroupTurn (turned config part past input) ∷ past) after

-- ---- the clauses of a group's calls, for the group with an index in the configuration

-- it was made for this group
abbrev pub IsMadeAt : Config → ℕ → Group → Type 0
IsMadeAt config index group = HoldsAt (λ part. IsMadeFor config part group) config.group index

-- it stands where no deed leaves it, whichever metas the first turns have
abbrev pub IsFreshAt : Config → ℕ → Group → Type 0
IsFreshAt config index group = HoldsAt (λ part. (metas : ℕ → MetaData) → IsGroup metas part [] group) config.group index

-- its writers may have so many turns, of whichever metas
abbrev pub MayTurnAt : Config → ℕ → ℕ → Group → Type 0
MayTurnAt config index turns group = HoldsAt (λ part. (metas : ℕ → MetaData) → MayGoOn metas part turns group) config.group index

-- this is its writer with this index: it stands where its own part of the group's deeds leaves it
abbrev pub IsWriterIn : Group → ℕ → Writer → Type 0
IsWriterIn group index writer =
    (metas : ℕ → MetaData) (part : GroupPart) (past : List GroupDeed) → index < length part.writer → IsGroup metas part past group
    → IsWriter (metas index) (settings_of (writer_at part index)) (writer_past index past) writer

-- the next data frame of the writer with this index takes this number
abbrev pub TellsNextNumber : Group → ℕ → ℕ → Type 0
TellsNextNumber group index number =
    (metas : ℕ → MetaData) (part : GroupPart) (past : List GroupDeed) → index < length part.writer → IsGroup metas part past group
    → number ≡ number_of_place (next_place_of (settings_of (writer_at part index)) (writer_past index past))

-- the log of each of its writers keeps so many data frames
abbrev pub AreLogged : ℕ → Group → Type 0
AreLogged most group = All (λ writer. logged_by writer ≡ most) group.writers.items

-- it keeps all, of the turns that are left too
abbrev pub KeepsLogs : Group → Type 0
KeepsLogs group = All KeepsAll group.writers.items

-- where the logs of the old group did either, those of the new one do
abbrev pub KeepsOnLogging : Group → Group → Type 0
KeepsOnLogging old new = LogsStay old.writers.items new.writers.items

-- the same of one of its writers
pub record IsLoggedIn (group : Group) (writer : Writer) : Type 0 where
  pub logged : (most : ℕ) → AreLogged most group → logged_by writer ≡ most
  pub all : KeepsLogs group → KeepsAll writer

-- whichever group of whichever configuration it was made for, it still is
abbrev pub IsStillMade : Group → Group → Type 0
IsStillMade old new = (config : Config) (part : GroupPart) → IsMadeFor config part old → IsMadeFor config part new

-- it stands after one deed more, a refresh of the writer with this index, whose meta may be another from now on
abbrev pub IsRefreshed : ℕ → Group → Group → Type 0
IsRefreshed index old new =
    (metas others : ℕ → MetaData) (part : GroupPart) (past : List GroupDeed) → AreSameBut index (length part.writer) metas others
    → IsGroup metas part past old → IsGroup others part (RefreshedWriter index ∷ past) new

-- its writers may have as many turns as before the refresh of the writer with this index
abbrev pub GoesOnRefreshed : ℕ → Group → Group → Type 0
GoesOnRefreshed index old new =
    (metas others : ℕ → MetaData) (part : GroupPart) (turns : ℕ) → AreSameBut index (writer_count old) metas others
    → MayGoOn metas part turns old → MayGoOn others part turns new

-- of whichever configuration it was made, it is one of that in which the writer with this index begins at this number
abbrev pub IsMadeBeginning : ℕ → ℕ → Group → Group → Type 0
IsMadeBeginning writer first old new =
    (config : Config) (index : ℕ) (part : GroupPart) → IsMadeFor config part old
    → IsMadeFor (config_beginning index writer first config) (group_beginning writer first part) new

-- where the writer with this index had no turn, the group stands where these deeds leave one in which that writer begins at this number; its meta may be
-- another from now on
abbrev pub HasBegun : ℕ → ℕ → Group → Group → Type 0
HasBegun writer first old new =
    (metas others : ℕ → MetaData) (part : GroupPart) (past : List GroupDeed) → AreSameBut writer (length part.writer) metas others
    → writer_past writer past ≡ [] → IsGroup metas part past old → IsGroup others (group_beginning writer first part) past new

-- its writers may have as many turns as before
abbrev pub GoesOnBegun : ℕ → ℕ → Group → Group → Type 0
GoesOnBegun writer first old new =
    (metas others : ℕ → MetaData) (part : GroupPart) (turns : ℕ) → writer < length part.writer → AreSameBut writer (writer_count old) metas others
    → MayGoOn metas part turns old → MayGoOn others (group_beginning writer first part) turns new

-- the truth value tells whether it is due at this moment
abbrev pub TellsDue : Group → ℕ → Bool → Type 0
TellsDue group now due =
    (config : Config) (part : GroupPart) (metas : ℕ → MetaData) (past : List GroupDeed) → IsMadeFor config part group
    → IsGroup metas part past group → due ≡ is_due part past now

-- the moment is an interval after the last turn: it is due from then on
abbrev pub TellsDueFrom : Group → ℕ → Type 0
TellsDueFrom group moment =
    (config : Config) (part : GroupPart) (metas : ℕ → MetaData) (past : List GroupDeed) → IsMadeFor config part group
    → IsGroup metas part past group → moment ≡ last_moment past + part.interval

-- 64 bits don't hold that moment
abbrev pub IsNeverDue : Group → Type 0
IsNeverDue group =
    (config : Config) (part : GroupPart) (metas : ℕ → MetaData) (past : List GroupDeed) → IsMadeFor config part group
    → IsGroup metas part past group → 2 ^ 64 ≤ last_moment past + part.interval

-- the moment is the greatest multiple of the interval that has passed
pub record IsMomentOf (interval now moment : ℕ) : Type 0 where
  pub multiple : moment % interval ≡ 0
  pub passed : moment ≤ now
  pub last : now < moment + interval

-- it is that of the group's publishing interval
abbrev pub TellsMoment : Group → ℕ → ℕ → Type 0
TellsMoment group now moment =
    (config : Config) (part : GroupPart) → IsMadeFor config part group → 1 ≤ part.interval → IsMomentOf part.interval now moment

-- where the moment of the last turn is a multiple of the publishing interval, the group is due at the moment of each time that is an interval later, or more
abbrev pub IsDueInTime : GroupPart → List GroupDeed → Type 0
IsDueInTime part past =
    (now moment : ℕ) → IsMomentOf part.interval now moment → last_moment past % part.interval ≡ 0 → last_moment past + part.interval ≤ now
    → is_due part past moment ≡ true

-- it may have a turn
abbrev pub MayTickAt : Config → List MetaData → List Sampled → List Bool → Option SenderState → Group → Type 0
MayTickAt config metas rows on sender group = HoldsAt (MayTick config metas rows on sender group) config.group (index_of group)

-- It was made for its group of the configuration, and goes on with the metas of the configuration's data sets. So it may have a turn as
-- soon as what the turn is given is in order and a turn is left.
pub record KeepsTo (config : Config) (group : Group) : Type 0 where
  pub index : index_of group < length config.group
  pub made : IsMadeAt config (index_of group) group
  pub goes_on : HoldsAt (λ part. MayGoOn (metas_for part config.dataset) part 0 group) config.group (index_of group)

-- of the data sets from this place on, one row each, which belongs to its data set's meta where that is there
abbrev pub AreRowsFrom : ℕ → List MetaData → List Sampled → Type 0
AreRowsFrom set metas [] = ⊤
AreRowsFrom set metas (sampled ∷ rows) = HoldsAt (λ meta. Belongs meta sampled.row.words) metas set × AreRowsFrom (set + 1) metas rows

abbrev pub AreRowsOf : List MetaData → List Sampled → Type 0
AreRowsOf metas rows = AreRowsFrom 0 metas rows

-- it had a turn, after whichever deeds left it as it was
abbrev pub HasTickedAt : Config → TurnInput → Group → Group → Datagrams → Type 0
HasTickedAt config input old new out =
    HoldsAt (λ part. (past : List GroupDeed) → IsGroup (metas_for part input.told.metas) part past old → HasTicked config part past input new out)
    config.group (index_of old)

-- its writers may have one turn less, of the metas of this one
abbrev pub GoesOnAt : Config → List MetaData → Group → Group → Type 0
GoesOnAt config metas old new =
    HoldsAt (λ part. (turns : ℕ) → MayGoOn (metas_for part metas) part (turns + 1) old → MayGoOn (metas_for part metas) part turns new)
    config.group (index_of old)

-- its sender, if it has one, gave a front for each of so many datagrams
abbrev pub IsSenderAfter : Config → ℕ → ℕ → Option SenderState → Option SenderState → Type 0
IsSenderAfter config index count before after =
    HoldsAt (λ part. after ≡ option_map (λ s. advanced_by (mode_of part.security) s count) before) config.group index
