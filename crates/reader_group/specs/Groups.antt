-- Which read group in memory has the plain reading of what befell it.
use Rattle.std.specs.Prelude.{◌≡◌, ℕ, ◌<◌, Bool, true, false, List, length, map, replicate, sum_by, slice_set, slice_index_or, Option, Result, Err}
use Rattle.std.specs.List.{HoldsAt}
use Rattle.dataset_reader.specs.declared.reader.Reader.{Reader}
use Rattle.dataset_reader.specs.Reader.{IsReaderOf, kept_by, passed_of}
use Rattle.message_guard.specs.declared.guard.Guard.{Guard}
use Rattle.message_guard.specs.declared.keys.TokenKeys.{TokenKeys}
use Rattle.message_guard.specs.Guards.{IsGuardOf, setup_of}
use Rattle.ps_config.specs.declared.parts.Config.{Config}
use Rattle.ps_config.specs.declared.parts.ReadGroupPart.{ReadGroupPart}
use Rattle.ps_config.specs.Sound.{IsSound}
use Rattle.receive_timer.specs.Told.{TellsDue}
use Rattle.reader_group.specs.declared.member.Member.{Member}
use Rattle.reader_group.specs.declared.group.ReaderGroup.{ReaderGroup}
use Rattle.reader_group.specs.declared.notice.Notice.{Notice}
use Rattle.reader_group.specs.declared.receipt.Receipt.{Receipt}
use Rattle.reader_group.specs.declared.receipt.TokenNumber.{TokenNumber}
use Rattle.reader_group.specs.declared.refusal.Refusal.{Refusal}
use Rattle.reader_group.specs.declared.refusal.Refusal.TheVariants.{NotOurs}
use Rattle.reader_group.specs.declared.refused.Refused.{Refused}
use Rattle.reader_group.specs.declared.refusal.Taken.{Taken}
use Rattle.reader_group.specs.declared.tally.Tally.{Tally}
use Rattle.reader_group.specs.Filter.{takes_number}
use Rattle.reader_group.specs.Refused.{refused_on}
use Rattle.reader_group.specs.LastTaken.{last_pair}
use Rattle.reader_group.specs.Members.{Seat, MemberValue, seat_at, is_fresh}
use Rattle.reader_group.specs.MemberWords.{IsMemberOf, HoldsRowsOf}
use Rattle.reader_group.specs.Notices.{account_by, no_notice, notice_at, noticed_as, noticed_on}
use Rattle.reader_group.specs.Payloads.{Payload}
use Rattle.reader_group.specs.Opening.{bytes_left}
use Rattle.reader_group.specs.Plain.{Setting, PlainGroup, Event, Fed, all_fed, answer, member_at, opening, Got, step, verdict_in, with_keys}
use Rattle.reader_group.specs.Settings.{setting_by, setting_of}

abbrev pub index_of : ReaderGroup → ℕ
index_of group = group.index

abbrev pub guard_of : ReaderGroup → Guard
guard_of group = group.guard.value

abbrev pub members_of : ReaderGroup → List Member
members_of group = group.members.items

-- what it refused, beside its plain reading
abbrev pub refused_of : ReaderGroup → Refused
refused_of group = group.refused

-- what is noted of its readers, beside its plain reading
abbrev pub notices_of : ReaderGroup → List Notice
notices_of group = group.notices

-- the token and the number of the last datagram that it accepted under a security header
abbrev pub pair_of : ReaderGroup → Option TokenNumber
pair_of group = group.pair

abbrev pub reader_count : ReaderGroup → ℕ
reader_count group = length (members_of group)

-- each reader has what is kept for it
pub record AreMembers (seats : List Seat) (values : List MemberValue) (members : List Member) : Type 0 where
  pub count : length members ≡ length seats
  pub values_count : length values ≡ length seats
  pub each : (k : ℕ) → k < length seats → HoldsAt (IsMemberOf (seat_at seats k) (member_at values k)) members k

-- each reader holds rows of its meta alone
pub record AreReaders (seats : List Seat) (members : List Member) : Type 0 where
  pub count : length members ≡ length seats
  pub each : (k : ℕ) → k < length seats → HoldsAt (HoldsRowsOf (seat_at seats k).meta) members k

-- only the reader at this index changes
abbrev pub ChangesAt : ℕ → List Member → List Member → Type 0
ChangesAt k old new = (d : Member) → new ≡ slice_set old k (slice_index_or new k d)

-- the readers, in whichever seats, become f of them
abbrev pub AllBecome : (List Seat → List MemberValue → List MemberValue) → List Member → List Member → Type 0
AllBecome f old new =
    (seats : List Seat) (values : List MemberValue) → AreMembers seats values old → AreMembers seats (f seats values) new

-- each reader holds rows of its meta alone where it did before
abbrev pub KeepReaders : List Member → List Member → Type 0
KeepReaders old new = (seats : List Seat) → AreReaders seats old → AreReaders seats new

-- the sums of what the readers were given
pub record IsTallyOf (tally : Tally) (feds : List Fed) : Type 0 where
  pub matched : tally.matched ≡ sum_by (λ fed. fed.matched) feds
  pub bad : tally.bad ≡ sum_by (λ fed. fed.bad) feds

-- the readers are fed a datagram with this payload as by the plain reading
abbrev pub AreFedBy : List Seat → Receipt → Bool → List Bool → Payload → List Member → List Member → Type 0
AreFedBy seats receipt raised on payload old new =
    (values : List MemberValue) → AreMembers seats values old
    → AreMembers seats (map (λ fed. fed.member) (all_fed seats values receipt raised on payload)) new

-- the sums are those of the plain reading of a datagram with this payload
abbrev pub AreTallied : List Seat → Receipt → Bool → List Bool → Payload → List Member → Tally → Type 0
AreTallied seats receipt raised on payload old tally =
    (values : List MemberValue) → AreMembers seats values old
    → IsTallyOf tally (all_fed seats values receipt raised on payload)

-- what is noted of the readers is what the plain reading of a datagram with this payload has of their parts
abbrev pub AreNotedBy : List Seat → Receipt → Bool → List Bool → Payload → List Member → List Notice → List Notice → Type 0
AreNotedBy seats receipt raised on payload members old new =
    (values : List MemberValue) → AreMembers seats values members
    → (k : ℕ) → k < length seats
    → notice_at new k ≡ noticed_as receipt.moment (account_by (seat_at seats k) receipt raised (slice_index_or on k false) payload (member_at values k)) (notice_at old k)

-- the group is where its plain reading is, with the setting's keys
pub record Stands (setting : Setting) (plain : PlainGroup) (group : ReaderGroup) : Type 0 where
  pub setup : setup_of (guard_of group) ≡ setting.setup
  pub guard : IsGuardOf plain.accepted (guard_of group)
  pub pair : pair_of group ≡ last_pair plain.accepted
  pub members : AreMembers setting.seats plain.members (members_of group)

-- the group was made of this configuration, which is sound; rings may have renewed it since
pub record IsMadeOf (config : Config) (group : ReaderGroup) : Type 0 where
  pub sound : IsSound config
  pub index : index_of group < length config.readgroup
  pub readers : AreReaders (setting_of config (index_of group)).seats (members_of group)

-- ---- what calls ensure

-- a group that nothing befell
abbrev pub IsOpening : Config → ℕ → ReaderGroup → Type 0
IsOpening config index group = Stands (setting_of config index) (opening (setting_of config index)) group

-- an event takes a group on as it takes its plain reading on
abbrev pub TakesOn : Setting → Event → ReaderGroup → ReaderGroup → Type 0
TakesOn setting event old new =
    (plain : PlainGroup) → Stands setting plain old → Stands setting (step setting plain event) new

-- the setting of a group of this configuration with these keys: those of its key group, or of the ring that renewed it last
abbrev pub setting_with : Config → ReaderGroup → List TokenKeys → Setting
setting_with config group keys = with_keys (setting_of config (index_of group)) keys

-- an event takes a group of this configuration on as it takes its plain reading on, whichever keys it has
abbrev pub StepsBy : Config → Event → ReaderGroup → ReaderGroup → Type 0
StepsBy config event old new = (keys : List TokenKeys) → TakesOn (setting_with config old keys) event old new

-- what a group of this configuration answers to a datagram is what its plain reading has
abbrev pub IsAnswer : Config → ReaderGroup → ℕ → List Bool → List ℕ → Result Taken Refusal → Type 0
IsAnswer config group now on datagram result =
    (keys : List TokenKeys) (plain : PlainGroup) → Stands (setting_with config group keys) plain group
    → result ≡ answer (setting_with config group keys) plain now on datagram

-- a datagram brings the notices of a group of this configuration what its plain reading has of each reader's parts
abbrev pub AreNoticed : Config → ReaderGroup → ℕ → List Bool → List ℕ → ReaderGroup → Type 0
AreNoticed config old now on datagram new =
    (keys : List TokenKeys) (plain : PlainGroup) → Stands (setting_with config old keys) plain old →
    let setting = setting_with config old keys in
    (k : ℕ) → k < length setting.seats
    → notice_at (notices_of new) k ≡ noticed_on setting plain now on k (verdict_in setting plain datagram) (notice_at (notices_of old) k)

-- what is left of the bytes of a datagram, by the group's plain reading
abbrev pub AreLeft : Config → ReaderGroup → List ℕ → List ℕ → Type 0
AreLeft config group datagram bytes =
    (keys : List TokenKeys) (plain : PlainGroup) → Stands (setting_with config group keys) plain group →
    let setting = setting_with config group keys in
    bytes ≡ bytes_left setting.group setting.setup plain.accepted datagram

-- a datagram takes a group of this configuration on, is answered, leaves its bytes and is noted as the plain reading has it
pub record HadDatagram (config : Config) (old new : ReaderGroup) (now : ℕ) (on : List Bool) (datagram bytes : List ℕ) (result : Result Taken Refusal) : Type 0 where
  pub step : StepsBy config (Got now on datagram) old new
  pub answer : IsAnswer config old now on datagram result
  pub bytes_left : AreLeft config old datagram bytes
  pub notices : AreNoticed config old now on datagram new

-- a datagram is refused as another's, and all that the plain reading has of the group stays, and so do the bytes
pub record PassedDatagram (old new : ReaderGroup) (datagram bytes : List ℕ) (result : Result Taken Refusal) : Type 0 where
  pub answer : result ≡ Err NotOurs
  pub guard : guard_of new ≡ guard_of old
  pub pair : pair_of new ≡ pair_of old
  pub members : members_of new ≡ members_of old
  pub notices : notices_of new ≡ notices_of old
  pub bytes_stay : bytes ≡ datagram

-- where it is to be had
abbrev pub HadIf : Bool → Config → ReaderGroup → ReaderGroup → ℕ → List Bool → List ℕ → List ℕ → Result Taken Refusal → Type 0
HadIf true config old new now on datagram bytes result = HadDatagram config old new now on datagram bytes result
HadIf false config old new now on datagram bytes result = PassedDatagram old new datagram bytes result

-- A datagram is refused by a group that asks for this NetworkMessageNumber, at whatever moment it comes and whichever readers are enabled: it is had so, with its bytes as
-- they were, and the refusal is kept.
pub record IsRefusedUnread (config : Config) (number : ℕ) (datagram : List ℕ) (old new : ReaderGroup) (refusal : Refusal) : Type 0 where
  pub had : (now : ℕ) (on : List Bool) → HadIf (takes_number number datagram) config old new now on datagram datagram (Err refusal)
  pub kept : refused_of new ≡ refused_on (refused_of old) (Err refusal) datagram

-- a ring with these keys renews a group: its plain reading stays, and goes on with the keys
abbrev pub GoesOnWith : List TokenKeys → ReaderGroup → ReaderGroup → Type 0
GoesOnWith keys old new =
    (setting : Setting) (plain : PlainGroup) → Stands setting plain old → Stands (with_keys setting keys) plain new

-- what the reader at this index keeps is what the plain reading has
abbrev pub IsKeptAt : ReaderGroup → ℕ → Reader → Type 0
IsKeptAt group index reader =
    (setting : Setting) (plain : PlainGroup) → Stands setting plain group
    → kept_by (seat_at setting.seats index).meta.fields reader ≡ (member_at plain.members index).kept

-- how many frames the reader at this index passed over is what the plain reading has
abbrev pub IsPassedAt : ReaderGroup → ℕ → Reader → Type 0
IsPassedAt group index reader =
    (setting : Setting) (plain : PlainGroup) → Stands setting plain group
    → passed_of reader ≡ (member_at plain.members index).passed

-- the reader at this index holds rows of its meta alone
abbrev pub IsMadeAt : ReaderGroup → ℕ → Reader → Type 0
IsMadeAt group index reader =
    (config : Config) → IsMadeOf config group
    → IsReaderOf (seat_at (setting_of config (index_of group)).seats index).meta reader

-- whether the reader at this index is late is what the plain reading has
abbrev pub IsLateAt : ReaderGroup → ℕ → Bool → Type 0
IsLateAt group index late =
    (setting : Setting) (plain : PlainGroup) → Stands setting plain group
    → late ≡ (member_at plain.members index).late

-- whether the reader at this index is ready is what the plain reading has
abbrev pub IsReadyAt : ReaderGroup → ℕ → Bool → Type 0
IsReadyAt group index ready =
    (setting : Setting) (plain : PlainGroup) → Stands setting plain group
    → ready ≡ (member_at plain.members index).ready

-- when the row of the reader at this index was confirmed is what the plain reading has
abbrev pub IsConfirmedAt : ReaderGroup → ℕ → Option ℕ → Type 0
IsConfirmedAt group index confirmed =
    (setting : Setting) (plain : PlainGroup) → Stands setting plain group
    → confirmed ≡ (member_at plain.members index).confirmed

-- whether the row of the reader at this index is fresh is what the plain reading has
abbrev pub IsFreshAt : ReaderGroup → ℕ → ℕ → ℕ → Bool → Type 0
IsFreshAt group index now bound fresh =
    (setting : Setting) (plain : PlainGroup) → Stands setting plain group
    → fresh ≡ is_fresh now bound (member_at plain.members index).confirmed

-- the moment from which on the reader at this index times out is what the plain reading has
abbrev pub IsDueAt : ReaderGroup → ℕ → Option ℕ → Type 0
IsDueAt group index moment =
    (setting : Setting) (plain : PlainGroup) → Stands setting plain group
    → TellsDue (seat_at setting.seats index).part.timeout (member_at plain.members index).told moment

-- the token and the number of the last datagram that was accepted under a security header are what the plain reading has
abbrev pub IsLastTaken : ReaderGroup → Option TokenNumber → Type 0
IsLastTaken group pair = (setting : Setting) (plain : PlainGroup) → Stands setting plain group → pair ≡ last_pair plain.accepted

-- the readers of a read group of any configuration, before anything
abbrev pub AreNew : ReadGroupPart → List Member → Type 0
AreNew group members =
    (config : Config) → AreMembers (setting_by config group).seats (opening (setting_by config group)).members members

-- the readers of a read group of any configuration hold rows of their metas alone
abbrev pub AreReadersOf : ReadGroupPart → List Member → Type 0
AreReadersOf group members = (config : Config) → AreReaders (setting_by config group).seats members

-- nothing is noted of any reader
abbrev pub no_notices : List Notice
no_notices = replicate 16 no_notice
