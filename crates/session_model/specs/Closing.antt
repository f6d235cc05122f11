-- What a session is when it is closed, as a report tells it.
use Rattle.std.specs.Prelude.{◌≡◌, ℕ, ◌+◌, ◌==◌, List, [], ◌∷◌, map, flat_map, reverse, count_by, is_some, Bool, true, false, ◌||◌, if◌then◌else◌, None, option_map, IfSome}
use Rattle.std.specs.List.{AllZip}
use Rattle.std.specs.List.Sorted.{IsNonDecreasing}
use Rattle.dataset_meta.specs.Metas.{MetaData}
use Rattle.row_words.specs.Belonging.{row_in, Belongs}
use Rattle.ua_base.specs.Journal.{Entry, Sent, SendFailed, Got, Empty, Long, ReceiveFailed, sent_datagram, received_datagram}
use Rattle.ps_config.specs.declared.parts.Config.{Config}
use Rattle.ps_config.specs.declared.parts.ReadGroupPart.{ReadGroupPart}
use Rattle.ps_config.specs.declared.parts.ReaderPart.{ReaderPart}
use Rattle.ps_report.specs.declared.closed.Closed.{Closed}
use Rattle.ps_report.specs.declared.closed.GroupEnd.{GroupEnd}
use Rattle.ps_report.specs.declared.closed.HeldEnd.{HeldEnd}
use Rattle.ps_report.specs.declared.closed.WriterEnd.{WriterEnd}
use Rattle.ps_report.specs.declared.closed.ReadGroupEnd.{ReadGroupEnd}
use Rattle.ps_report.specs.declared.closed.ReaderEnd.{ReaderEnd}
use Rattle.ps_report.specs.declared.closed.LinkEnd.{LinkEnd}
use Rattle.ps_report.specs.Told.{TellsEnds, TellsNumber, grouped_readers}
use Rattle.pubsub_states.specs.declared.component.Component.TheVariants.{Group, Writer, ReadGroup, Reader}
use Rattle.reader_group.specs.Members.{MemberValue, seat_at}
use Rattle.reader_group.specs.Settings.{setting_of}
use Rattle.session_model.specs.Steps.{Plan, Step, Enable, Disable, Append, Tick, Pump}
use Rattle.session_model.specs.Counts.{most_taken}
use Rattle.session_model.specs.Deeds.{group_indexes, writer_indexes, logs_at}
use Rattle.writer_group.specs.Parts.{group_at}
use Rattle.session_model.specs.Sends.{journal, sent_by}
use Rattle.session_model.specs.Events.{read_group_indexes, reader_indexes, reader_at}
use Rattle.session_model.specs.States.{state_at}
use Rattle.session_model.specs.Answers.{answers_at, counted, taken_by, causes_by}

-- ---- the link's counts

abbrev pub is_sent : Entry → Bool
is_sent entry = is_some (sent_datagram entry)

abbrev pub is_got : Entry → Bool
is_got entry = is_some (received_datagram entry)

abbrev pub is_send_failed : Entry → Bool
is_send_failed (Sent datagram) = false
is_send_failed SendFailed = true
is_send_failed (Got datagram) = false
is_send_failed Empty = false
is_send_failed (Long len) = false
is_send_failed ReceiveFailed = false

abbrev pub is_long : Entry → Bool
is_long (Sent datagram) = false
is_long SendFailed = false
is_long (Got datagram) = false
is_long Empty = false
is_long (Long len) = true
is_long ReceiveFailed = false

abbrev pub is_broken : Entry → Bool
is_broken (Sent datagram) = false
is_broken SendFailed = false
is_broken (Got datagram) = false
is_broken Empty = false
is_broken (Long len) = false
is_broken ReceiveFailed = true

-- a datagram that a pump took off the link
abbrev pub is_datagram : Entry → Bool
is_datagram entry = is_got entry || is_long entry

-- the pumps that ended at their limit
abbrev pub limits : List Step → ℕ
limits [] = 0
limits (Enable id ∷ before) = limits before
limits (Disable id ∷ before) = limits before
limits (Append set field ∷ before) = limits before
limits (Tick ms closing samples done ∷ before) = limits before
limits (Pump entries ∷ before) = limits before + (if count_by is_datagram entries == most_taken then 1 else 0)

abbrev pub link_end : Plan → List Step → LinkEnd
link_end p steps = record {
  sent = counted (count_by is_sent (journal p steps));
  failed = counted (count_by is_send_failed (journal p steps));
  received = counted (count_by is_got (journal p steps));
  broken = counted (count_by is_broken (journal p steps));
  long = counted (count_by is_long (journal p steps));
  limit = counted (limits steps);
}

-- ---- the ends of components

abbrev pub group_end : Plan → List Step → ℕ → GroupEnd
group_end p steps g = record { state = state_at p steps (Group g); sent = counted (sent_by p g steps) }

-- a writer or a reader by its group and its index in this
abbrev pub MemberPlace : Type 0
MemberPlace = ℕ × ℕ

abbrev pub writer_places : Config → List MemberPlace
writer_places config = flat_map (λ g. map (λ w. (g, w)) (writer_indexes (group_at config g))) (group_indexes config)

abbrev pub reader_places : Config → List MemberPlace
reader_places config = flat_map (λ r. map (λ i. (r, i)) (reader_indexes config r)) (read_group_indexes config)

-- with these logs of all writers
pub record IsWriterEndWith (logs : ℕ → ℕ → List (ℕ × ℕ)) (p : Plan) (steps : List Step) (place : MemberPlace) (end : WriterEnd) : Type 0 where
  pub state : end.state ≡ state_at p steps (Writer place.0 place.1)
  pub log : end.log ≡ logs place.0 place.1

abbrev pub IsWriterEnd : Plan → List Step → MemberPlace → WriterEnd → Type 0
IsWriterEnd p steps place end = IsWriterEndWith (logs_at p steps) p steps place end

abbrev pub read_group_end : Plan → List Step → ℕ → ReadGroupEnd
read_group_end p steps r =
    let answered = answers_at p.config r steps in
    record { state = state_at p steps (ReadGroup r); taken = taken_by answered; causes = causes_by answered }

-- what a reader keeps, as a report tells it; the version that it tells is for `TellsEndsIf`
pub record Shows (meta : MetaData) (member : MemberValue) (end : ReaderEnd) : Type 0 where
  pub row : option_map (λ held. row_in meta.fields held.row.words) end.held ≡ member.kept.row
  pub number : IfSome end.held (λ held. held.number ≡ member.kept.number)
  pub belongs : IfSome end.held (λ held. Belongs meta held.row.words)
  pub why : end.why ≡ member.kept.why
  pub breaks : end.breaks ≡ member.kept.breaks
  pub recent : end.recent.items ≡ reverse member.kept.recent

pub record IsReaderEnd (p : Plan) (steps : List Step) (place : MemberPlace) (end : ReaderEnd) : Type 0 where
  pub state : end.state ≡ state_at p steps (Reader place.0 place.1)
  pub shows : Shows (seat_at (setting_of p.config place.0).seats place.1).meta (reader_at p.config place.0 place.1 steps) end

-- ---- the whole

-- where versions aren't told, a row that a reader holds has the number that the reader's numbering asks for, and no version
pub record TellsNumberAlone (part : ReaderPart) (held : HeldEnd) : Type 0 where
  pub number : TellsNumber part.numbering held.number
  pub version : held.version ≡ None

abbrev pub TellsReaderAlone : ReadGroupPart × ReaderPart → ReaderEnd → Type 0
TellsReaderAlone at end = IfSome end.held (TellsNumberAlone at.1)

-- so of each reader, and the watches in the order of their threads
pub record TellsNumbersAlone (config : Config) (closed : Closed) : Type 0 where
  pub readers : AllZip TellsReaderAlone (grouped_readers config.readgroup) closed.readers
  pub watches : IsNonDecreasing (map (λ end. end.thread) closed.watches)

-- with versions or without
abbrev pub TellsEndsIf : Bool → Config → Closed → Type 0
TellsEndsIf true config closed = TellsEnds config closed
TellsEndsIf false config closed = TellsNumbersAlone config closed

-- all that a closed session with these logs shows of these steps, with versions or without; its histories and its watches are those of the threads
pub record IsClosedTelling (versions : Bool) (logs : ℕ → ℕ → List (ℕ × ℕ)) (p : Plan) (steps : List Step) (closed : Closed) : Type 0 where
  pub groups : closed.groups ≡ map (group_end p steps) (group_indexes p.config)
  pub writers : AllZip (IsWriterEndWith logs p steps) (writer_places p.config) closed.writers
  pub read_groups : closed.read_groups ≡ map (read_group_end p steps) (read_group_indexes p.config)
  pub readers : AllZip (IsReaderEnd p steps) (reader_places p.config) closed.readers
  pub link : closed.link ≡ link_end p steps
  pub told : TellsEndsIf versions p.config closed

-- with versions
abbrev pub IsClosedWith : (ℕ → ℕ → List (ℕ × ℕ)) → Plan → List Step → Closed → Type 0
IsClosedWith logs p steps closed = IsClosedTelling true logs p steps closed

-- and with its whole logs
abbrev pub IsClosedAfter : Plan → List Step → Closed → Type 0
IsClosedAfter p steps closed = IsClosedWith (logs_at p steps) p steps closed
