-- What a matched read group makes of the datagrams of a turn.
use Rattle.std.specs.Prelude.{◌≡◌, ◌≢◌, ◌⊎◌, ◌≤◌, ℕ, suc, ◌+◌, Bool, true, false, not, ◌||◌, List, [], ◌∷◌, ◌++◌, length, All, Contains, Option, Some, None, Result, Ok, Err, IsErr, slice_get}
use Rattle.uadp_header.specs.Spelling.{header_bytes}
use Rattle.message_guard.specs.declared.open_fault.OpenFault.{OpenFault}
use Rattle.message_guard.specs.declared.open_fault.OpenFault.TheVariants as faults
use Rattle.message_guard.specs.declared.pass.Pass1.{Pass1}
use Rattle.message_guard.specs.Acceptance.{Accepted, is_acceptable}
use Rattle.message_guard.specs.Guards.{Setup}
use Rattle.message_guard.specs.Modes.{is_secured}
use Rattle.message_guard.specs.Opened.{sent_pass}
use Rattle.message_guard.specs.Opening.{open_pass}
use Rattle.message_guard.specs.Senders.{SenderState}
use Rattle.config_tables.specs.declared.words.Layout.{Layout}
use Rattle.config_tables.specs.declared.words.Layout.TheVariants as layouts
use Rattle.ps_config.specs.declared.parts.Config.{Config}
use Rattle.ps_config.specs.declared.parts.GroupPart.{GroupPart}
use Rattle.ps_config.specs.declared.parts.ReadGroupPart.{ReadGroupPart}
use Rattle.ps_config.specs.declared.parts.ReaderPart.{ReaderPart}
use Rattle.ps_config.specs.Headers.{mode_of}
use Rattle.writer_group.specs.Payloads.{payloads_of}
use Rattle.writer_group.specs.Sealing.{Payload, Envelope, advanced_by, header_at, open_datagram}
use Rattle.writer_group.specs.Turns.{GroupDeed, TurnInput, envelope_of, frames_in, turn_datagrams}
use Rattle.reader_group.specs.declared.refusal.Refusal.{Refusal}
use Rattle.reader_group.specs.declared.refusal.Refusal.TheVariants as refusals
use Rattle.reader_group.specs.Opening.{Opened, verdict}
use Rattle.reader_group.specs.Payloads.{payload_of, pieces}
use Rattle.reader_group.specs.Settings.{setup_by}
use Rattle.group_laws.specs.Matching.{IsGroupTurn, IsMatched}

-- ---- what there is to be opened

-- the sender once it gave the front of the turn's datagram with this index, from 0
abbrev pub sender_at : Envelope → SenderState → ℕ → SenderState
sender_at e sender index = advanced_by (mode_of e.settings.security) sender (suc index)

-- what a guard finds of a datagram
abbrev pub guard_pass_at : Envelope → Option SenderState → ℕ → Payload → Pass1
guard_pass_at e None index payload = open_pass (open_datagram e index payload)
guard_pass_at e (Some sender) index payload =
    sent_pass (sender_at e sender index) (header_bytes (header_at e (Some sender) index payload.0)) payload.1

-- what a read group opens of the datagram of a turn with this index: just what its group had for it
abbrev pub opened_at : Layout → Envelope → Option SenderState → ℕ → Payload → Opened
opened_at layout e sender index payload =
    let header = header_bytes (header_at e sender index payload.0) in
    record { pass = guard_pass_at e sender index payload; payload = payload_of layout payload.0 (length header) (header ++ payload.1) }

-- what a read group opens of the datagrams of a turn from this index on
abbrev pub opened_from : Layout → Envelope → Option SenderState → ℕ → List Payload → List Opened
opened_from layout e sender index [] = []
opened_from layout e sender index (payload ∷ payloads) =
    opened_at layout e sender index payload ∷ opened_from layout e sender (index + 1) payloads

-- what a read group opens of all datagrams of a turn, in order
abbrev pub turn_opened : Config → GroupPart → List GroupDeed → TurnInput → List Opened
turn_opened config group past input =
    opened_from group.layout (envelope_of config group past) input.sender 0 (payloads_of config group (frames_in group past input))

-- ---- whether it is taken

-- a guard accepts the token and the number, or the group isn't secured
abbrev pub is_accepted : Setup → Accepted → Pass1 → Bool
is_accepted setup accepted pass = not (is_secured setup.mode) || is_acceptable setup.keys accepted pass.token pass.number

-- a higher token was accepted before
pub record IsOldToken (fault : OpenFault) : Type 0 where
  pub got : ℕ
  pub high : ℕ
  pub is : fault ≡ faults.OldToken got high

-- the number is too far below the greatest that was accepted under its token
pub record IsTooOld (fault : OpenFault) : Type 0 where
  pub high : ℕ
  pub is : fault ≡ faults.TooOld high

-- a datagram is refused for its token, or for its number, which was accepted before or is too old
pub record IsNumberRefusal (answer : Result Opened Refusal) : Type 0 where
  pub fault : OpenFault
  pub answer_is : answer ≡ Err (refusals.Guard fault)
  pub of_number : IsOldToken fault ⊎ (fault ≡ faults.Repeated) ⊎ IsTooOld fault

-- a datagram is opened to just this where it is accepted, and else refused for its token or number
pub record IsTakenAs (acceptable : Bool) (opened : Opened) (answer : Result Opened Refusal) : Type 0 where
  pub taken : acceptable ≡ true → answer ≡ Ok opened
  pub refused : acceptable ≡ false → IsNumberRefusal answer

-- ---- the law of what is taken

-- A read group that is matched to a group of the configuration opens each datagram of a turn of it to just what the group had for it,
-- whatever it accepted before. It does where it accepts the token and the number, and else refuses it for these.
abbrev pub AreTakenAsSent : Config → Type 0
AreTakenAsSent config =
    (group : GroupPart) (readers : ReadGroupPart) (past : List GroupDeed) (input : TurnInput)
    (accepted : Accepted) (index : ℕ) (datagram : List ℕ) (opened : Opened)
    → IsGroupTurn config group past input → IsMatched config group readers
    → slice_get (turn_datagrams config group past input) index ≡ Some datagram
    → slice_get (turn_opened config group past input) index ≡ Some opened
    → let setup = setup_by config readers readers.keygroup in
    IsTakenAs (is_accepted setup accepted opened.pass) opened (verdict readers setup accepted datagram)

-- for each datagram of a turn there is one that is opened
abbrev pub AreAsMany : Config → Type 0
AreAsMany config =
    (group : GroupPart) (past : List GroupDeed) (input : TurnInput)
    → length (turn_opened config group past input) ≡ length (turn_datagrams config group past input)

-- ---- the laws of other groups

-- a read group that asks for another group by its id refuses each datagram of a turn of a group of the configuration
abbrev pub AreNotOurs : Config → Type 0
AreNotOurs config =
    (group : GroupPart) (past : List GroupDeed) (input : TurnInput) (readers : ReadGroupPart)
    (setup : Setup) (accepted : Accepted) (datagram : List ℕ) → IsGroupTurn config group past input
    → Contains (turn_datagrams config group past input) datagram
    → readers.group ≢ 0 → readers.group ≢ group.id
    → verdict readers setup accepted datagram ≡ Err refusals.NotOurs

-- a read group of a dynamic layout refuses each datagram of a turn of a fixed group of the configuration
abbrev pub AreNotDynamic : Config → Type 0
AreNotDynamic config =
    (group : GroupPart) (past : List GroupDeed) (input : TurnInput) (readers : ReadGroupPart)
    (setup : Setup) (accepted : Accepted) (datagram : List ℕ) → IsGroupTurn config group past input
    → Contains (turn_datagrams config group past input) datagram
    → group.layout ≡ layouts.Fixed → readers.layout ≡ layouts.Dynamic
    → IsErr (verdict readers setup accepted datagram)

-- what a read group of a dynamic layout opens of a turn of a dynamic group of the configuration has nothing for the reader of a writer that isn't of the group
abbrev pub HaveNothingForOthers : Config → Type 0
HaveNothingForOthers config =
    (group : GroupPart) (past : List GroupDeed) (input : TurnInput) (readers : ReadGroupPart)
    (setup : Setup) (accepted : Accepted) (datagram : List ℕ) (opened : Opened) (reader : ReaderPart)
    → IsGroupTurn config group past input → Contains (turn_datagrams config group past input) datagram
    → group.layout ≡ layouts.Dynamic → readers.layout ≡ layouts.Dynamic → 1 ≤ reader.writer
    → All (λ writer. writer.id ≢ reader.writer) group.writer
    → verdict readers setup accepted datagram ≡ Ok opened → pieces reader opened.payload ≡ []
