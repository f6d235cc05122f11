-- What a session is when it is closed, by what became of it: after steps alone, and in a life in which rings renew its keys.
use Rattle.std.specs.Prelude.{◌≡◌, ◌≢◌, ℕ, Bool, true, List, None, IfSome, map, option_and_then}
use Rattle.std.specs.List.{AllZip}
use Rattle.pubsub_model.specs.Answers.{version_of}
use Rattle.ps_config.specs.declared.parts.Config.{Config}
use Rattle.ps_config.specs.declared.parts.ReadGroupPart.{ReadGroupPart}
use Rattle.ps_config.specs.declared.parts.ReaderPart.{ReaderPart}
use Rattle.ps_report.specs.declared.closed.Closed.{Closed}
use Rattle.ps_report.specs.declared.closed.GroupEnd.{GroupEnd}
use Rattle.ps_report.specs.declared.closed.HeldEnd.{HeldEnd}
use Rattle.ps_report.specs.declared.closed.WriterEnd.{WriterEnd}
use Rattle.ps_report.specs.declared.closed.ReadGroupEnd.{ReadGroupEnd}
use Rattle.ps_report.specs.declared.closed.ReaderEnd.{ReaderEnd}
use Rattle.pubsub_states.specs.declared.component.Component.TheVariants.{Group, Writer, ReadGroup, Reader}
use Rattle.reader_group.specs.Members.{seat_at}
use Rattle.reader_group.specs.Plain.{member_at}
use Rattle.reader_group.specs.Settings.{group_at as read_group_at, setting_of}
use Rattle.session_model.specs.Steps.{Plan, Step}
use Rattle.session_model.specs.Answers.{causes_by, counted, taken_by}
use Rattle.session_model.specs.Closing.{MemberPlace, Shows, reader_places, writer_places}
use Rattle.session_model.specs.Deeds.{group_indexes}
use Rattle.session_model.specs.Events.{read_group_indexes}
use Rattle.session_model.specs.Lives.{Account, Lived, account_in, log_in, state_by, steps_in}
use Rattle.session_parts.specs.Showing.{link_of}
use Rattle.pubsub_engine.specs.Logs.{log_after, log_by, logs_told}

-- ---- the ends of components

abbrev pub group_end_by : Plan → List Step → Account → ℕ → GroupEnd
group_end_by p steps a g = record { state = state_by p.config steps a (Group g); sent = counted (a.sent g) }

-- with these logs of all writers
pub record IsWriterEndBy (logs : ℕ → ℕ → List (ℕ × ℕ)) (p : Plan) (steps : List Step) (a : Account) (place : MemberPlace) (end : WriterEnd) : Type 0 where
  pub state : end.state ≡ state_by p.config steps a (Writer place.0 place.1)
  pub log : end.log ≡ logs place.0 place.1

abbrev pub read_group_end_by : Plan → List Step → Account → ℕ → ReadGroupEnd
read_group_end_by p steps a r =
    let answered = (a.readings r).answered in
    record { state = state_by p.config steps a (ReadGroup r); taken = taken_by answered; causes = causes_by answered }

pub record IsReaderEndBy (p : Plan) (steps : List Step) (a : Account) (place : MemberPlace) (end : ReaderEnd) : Type 0 where
  pub state : end.state ≡ state_by p.config steps a (Reader place.0 place.1)
  pub shows : Shows (seat_at (setting_of p.config place.0).seats place.1).meta (member_at (a.readings place.0).value.members place.1) end

-- the reader with this place, after its read group
abbrev pub reader_in : Config → MemberPlace → ReadGroupPart × ReaderPart
reader_in config place = (read_group_at config place.0, (seat_at (setting_of config place.0).seats place.1).part)

-- beside a row that a reader holds stands the version that this program's writer has at its number in these logs
pub record HasVersion (logs : ℕ → ℕ → List (ℕ × ℕ)) (p : Plan) (at : ReadGroupPart × ReaderPart) (held : HeldEnd) : Type 0 where
  pub own : at.0.publisher ≡ p.config.publisher.id → held.version ≡ option_and_then (version_of (log_by logs p.config at.1.writer)) held.number
  pub other : at.0.publisher ≢ p.config.publisher.id → held.version ≡ None

-- all that is told of the reader with this place
pub record IsToldBy (logs : ℕ → ℕ → List (ℕ × ℕ)) (p : Plan) (steps : List Step) (a : Account) (place : MemberPlace) (end : ReaderEnd) : Type 0 where
  pub is : IsReaderEndBy p steps a place end
  pub version : IfSome end.held (HasVersion logs p (reader_in p.config place))

-- ---- the whole

-- all that a closed session with these logs shows of these steps, of which this became, with versions or without; its histories and its watches are those
-- of the threads
pub record IsClosedBy (versions : Bool) (logs : ℕ → ℕ → List (ℕ × ℕ)) (p : Plan) (steps : List Step) (a : Account) (closed : Closed) : Type 0 where
  pub groups : closed.groups ≡ map (group_end_by p steps a) (group_indexes p.config)
  pub writers : AllZip (IsWriterEndBy logs p steps a) (writer_places p.config) closed.writers
  pub read_groups : closed.read_groups ≡ map (read_group_end_by p steps a) (read_group_indexes p.config)
  pub readers : AllZip (IsToldBy (logs_told versions logs) p steps a) (reader_places p.config) closed.readers
  pub link : closed.link ≡ link_of a.journal steps

-- the first data frames of each writer, as many as its log keeps, in a life
abbrev pub logs_in : ℕ → Plan → List Lived → ℕ → ℕ → List (ℕ × ℕ)
logs_in most p life = log_after most p.config (account_in p life).deeds

-- in a life
abbrev pub IsClosedIn : Bool → ℕ → Plan → List Lived → Closed → Type 0
IsClosedIn versions most p life closed = IsClosedBy versions (logs_in most p life) p (steps_in life) (account_in p life) closed

-- with all data frames of each writer
abbrev pub IsClosedWhole : Plan → List Lived → Closed → Type 0
IsClosedWhole p life closed = IsClosedBy true (log_in p life) p (steps_in life) (account_in p life) closed
