-- What the laws below this crate say, as the records that its laws are proved from.
use Rattle.std.specs.Prelude.{◌≡◌, ◌≢◌, ◌≤◌, ℕ, List, [], length, All, Contains, Some, Ok, Err, IsErr, slice_get}
use Rattle.dataset_meta.specs.Metas.{MetaData, HasGrown, IsMeta}
use Rattle.dataset_meta.specs.Rows.{row_cut}
use Rattle.row_words.specs.Belonging.{row_in, Belongs, cut_words}
use Rattle.message_guard.specs.Acceptance.{Accepted}
use Rattle.message_guard.specs.Guards.{Setup}
use Rattle.message_guard.specs.Senders.{SenderState}
use Rattle.config_tables.specs.declared.words.Layout.TheVariants as layouts
use Rattle.ps_config.specs.declared.parts.Config.{Config}
use Rattle.ps_config.specs.declared.parts.GroupPart.{GroupPart}
use Rattle.ps_config.specs.declared.parts.KeyGroupPart.{KeyGroupPart}
use Rattle.ps_config.specs.declared.parts.ReadGroupPart.{ReadGroupPart}
use Rattle.ps_config.specs.declared.parts.ReaderPart.{ReaderPart}
use Rattle.ps_config.specs.Sound.{IsKeyGroup}
use Rattle.writer_group.specs.Payloads.{meta_at}
use Rattle.writer_group.specs.Turns.{GroupDeed, TurnInput, turn_datagrams}
use Rattle.reader_group.specs.declared.refusal.Refusal.TheVariants as refusals
use Rattle.reader_group.specs.Agreeing.{Agrees}
use Rattle.reader_group.specs.Arrivals.{Way}
use Rattle.reader_group.specs.Members.{Seat, seat_at}
use Rattle.reader_group.specs.Opening.{Opened, verdict}
use Rattle.reader_group.specs.Payloads.{pieces}
use Rattle.reader_group.specs.Plain.{Event, Setting}
use Rattle.reader_group.specs.Settings.{setting_by, setup_by}
use Rattle.group_laws.specs.Matching.{IsMatched, IsMatchedTo, IsGroupTurn, IsRingSender, IsSenderOf, ReadsFrames, ReadsWriter}
use Rattle.group_laws.specs.TurnOpened.{turn_opened, is_accepted, IsTakenAs}
use Rattle.group_laws.specs.TurnReading.{IsFixedTurn, IsPartBy, IsSampled}
use Rattle.session_model.specs.Keeping.{AreSteps, IsPlan}
use Rattle.session_model.specs.Steps.{Plan, Step}
use Rattle.session_model.specs.Turns.{TurnsHold}

-- ---- the laws of turns, as `group_laws` has them

pub record TurnLaws : Type 0 where
  pub taken : (config : Config) (group : GroupPart) (readers : ReadGroupPart) (past : List GroupDeed) (input : TurnInput) (accepted : Accepted) (index : ℕ) (datagram : List ℕ) (opened : Opened)
      → IsGroupTurn config group past input → IsMatched config group readers
      → slice_get (turn_datagrams config group past input) index ≡ Some datagram → slice_get (turn_opened config group past input) index ≡ Some opened
      → (let setup = setup_by config readers readers.keygroup in IsTakenAs (is_accepted setup accepted opened.pass) opened (verdict readers setup accepted datagram))
  pub many : (config : Config) (group : GroupPart) (past : List GroupDeed) (input : TurnInput) → length (turn_opened config group past input) ≡ length (turn_datagrams config group past input)
  pub dynamic : (config : Config) (group : GroupPart) (past : List GroupDeed) (input : TurnInput) (writer : ℕ) (seat : Seat) → group.layout ≡ layouts.Dynamic → IsGroupTurn config group past input
      → ReadsWriter group writer seat.part → ReadsFrames group input.told.metas writer seat.meta → IsSampled group past input writer
      → (opened : Opened) → Contains (turn_opened config group past input) opened → All (IsPartBy group past input writer seat) (pieces seat.part opened.payload)
  pub fixed : (config : Config) (group : GroupPart) (past : List GroupDeed) (input : TurnInput) (writer : ℕ) (seat : Seat) → group.layout ≡ layouts.Fixed → IsGroupTurn config group past input
      → IsFixedTurn config group past input → ReadsWriter group writer seat.part → seat.meta ≡ meta_at group config.dataset writer
      → (opened : Opened) → Contains (turn_opened config group past input) opened → All (IsPartBy group past input writer seat) (pieces seat.part opened.payload)
  pub other_named : (config : Config) (group : GroupPart) (past : List GroupDeed) (input : TurnInput) (readers : ReadGroupPart) (setup : Setup) (accepted : Accepted) (datagram : List ℕ) → IsGroupTurn config group past input
      → Contains (turn_datagrams config group past input) datagram → readers.group ≢ 0 → readers.group ≢ group.id → verdict readers setup accepted datagram ≡ Err refusals.NotOurs
  pub other_fixed : (config : Config) (group : GroupPart) (past : List GroupDeed) (input : TurnInput) (readers : ReadGroupPart) (setup : Setup) (accepted : Accepted) (datagram : List ℕ) → IsGroupTurn config group past input
      → Contains (turn_datagrams config group past input) datagram → group.layout ≡ layouts.Fixed → readers.layout ≡ layouts.Dynamic → IsErr (verdict readers setup accepted datagram)
  pub other_dynamic : (config : Config) (group : GroupPart) (past : List GroupDeed) (input : TurnInput) (readers : ReadGroupPart) (setup : Setup) (accepted : Accepted) (datagram : List ℕ) (opened : Opened) (reader : ReaderPart)
      → IsGroupTurn config group past input → Contains (turn_datagrams config group past input) datagram → group.layout ≡ layouts.Dynamic → readers.layout ≡ layouts.Dynamic → 1 ≤ reader.writer
      → All (λ writer. writer.id ≢ reader.writer) group.writer → verdict readers setup accepted datagram ≡ Ok opened → pieces reader opened.payload ≡ []
  pub reads : (config : Config) (readers : ReadGroupPart) (reader : ℕ) (group : GroupPart) (writer : ℕ) → IsMatchedTo config readers reader group writer
      → ReadsWriter group writer (seat_at (setting_by config readers).seats reader).part
  pub meta : (config : Config) (readers : ReadGroupPart) (reader : ℕ) (group : GroupPart) (writer : ℕ) → IsMatchedTo config readers reader group writer
      → (seat_at (setting_by config readers).seats reader).meta ≡ meta_at group config.dataset writer

-- ---- the laws of rows in words, as `row_words` has them
pub record WordLaws : Type 0 where
  pub belongs : (short full : MetaData) (words : List ℕ) → IsMeta short.fields → HasGrown short full → Belongs full words → Belongs short (cut_words short full words)
  pub row : (short full : MetaData) (words : List ℕ) → HasGrown short full → Belongs full words → row_in short.fields (cut_words short full words) ≡ row_cut short (row_in full.fields words)

-- ---- the others

-- what a reader keeps is *Arrivals* and *Records* of it, where its messages are near
abbrev pub AgreeLaw : Type 0
AgreeLaw = (setting : Setting) (way : Way) (events : List Event) → Agrees setting way events

-- the law of rings and senders, as `group_laws` has it
abbrev pub RingLaw : Type 0
RingLaw = (ring : KeyGroupPart) (now : ℕ) (s : SenderState) → IsKeyGroup ring → IsRingSender ring now s → IsSenderOf ring s

-- each turn of a session holds
abbrev pub HoldLaw : Type 0
HoldLaw = (p : Plan) (steps : List Step) → IsPlan p → AreSteps p steps → TurnsHold p steps

-- all that a session stands on below
pub record Laws : Type 0 where
  pub turns : TurnLaws
  pub agrees : AgreeLaw
  pub words : WordLaws
  pub ring : RingLaw
  pub hold : HoldLaw
