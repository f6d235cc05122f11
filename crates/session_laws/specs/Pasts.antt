-- A group's past, turn by turn as the definitions of a group make it, and what it sent.
use Rattle.std.specs.Prelude.{◌≡◌, ◌⊎◌, ⊤, ℕ, ◌<◌, List, [], ◌∷◌, length, Some, Ok, slice_get, Contains}
use Rattle.dataset_meta.specs.Metas.{MetaData}
use Rattle.pubsub_model.specs.Cadence.{Settings, Answered, HasRowsOf, cadence}
use Rattle.dataset_writer.specs.Turns.{model_settings}
use Rattle.config_tables.specs.declared.words.Layout.TheVariants as layouts
use Rattle.ps_config.specs.declared.parts.Config.{Config}
use Rattle.ps_config.specs.declared.parts.GroupPart.{GroupPart}
use Rattle.writer_group.specs.Payloads.{meta_at, writer_at}
use Rattle.writer_group.specs.Turns.{GroupDeed, GroupTurn, RefreshedWriter, HadGroupTurn, TurnInput, settings_of, turned, writer_past}
use Rattle.reader_group.specs.Arrivals.{accepted}
use Rattle.reader_group.specs.Opening.{Opened, verdict}
use Rattle.reader_group.specs.Plain.{Setting, Event, Got, Expired, Stopped}
use Rattle.group_laws.specs.Matching.{IsGroupTurn, ReadsFrames}
use Rattle.group_laws.specs.TurnReading.{IsFixedTurn, IsSampled}

-- ---- a past

-- The turn is what a group's definitions make of some input; what each writer answers is a frame of its data set, which is the configured one, or has grown
-- since.
pub record IsTurn (config : Config) (group : GroupPart) (before : List GroupDeed) (turn : GroupTurn) : Type 0 where
  pub input : TurnInput
  pub is : turn ≡ turned config group before input
  pub may : IsGroupTurn config group before input
  pub sampled : (writer : ℕ) → writer < length group.writer → IsSampled group before input writer
  pub metas : (writer : ℕ) → writer < length group.writer → ReadsFrames group input.told.metas writer (meta_at group config.dataset writer)
  pub majors : (writer : ℕ) → writer < length group.writer
      → (meta_at group config.dataset writer).major ≡ (meta_at group input.told.metas writer).major
  pub fixed : group.layout ≡ layouts.Fixed → IsFixedTurn config group before input

abbrev pub AreTurns : Config → GroupPart → List GroupDeed → Type 0
AreTurns config group [] = ⊤
AreTurns config group (RefreshedWriter writer ∷ before) = AreTurns config group before
AreTurns config group (HadGroupTurn turn ∷ before) = IsTurn config group before turn × AreTurns config group before

-- and from one refresh of a writer to the next its rows are of one meta
pub record IsPast (config : Config) (group : GroupPart) (past : List GroupDeed) : Type 0 where
  pub turns : AreTurns config group past
  pub rows : (writer : ℕ) → writer < length group.writer → (meta : MetaData) × HasRowsOf meta (writer_past writer past)

-- what a writer of the group answered
abbrev pub settings_at : GroupPart → ℕ → Settings
settings_at group writer = model_settings (settings_of (writer_at group writer))

abbrev pub answered_by : GroupPart → ℕ → List GroupDeed → List Answered
answered_by group writer past = cadence (settings_at group writer) (writer_past writer past)

-- ---- what was sent

-- a turn of the past made the datagram
abbrev pub WasMade : List GroupDeed → List ℕ → Type 0
WasMade [] datagram = ⊥
WasMade (RefreshedWriter writer ∷ before) datagram = WasMade before datagram
WasMade (HadGroupTurn turn ∷ before) datagram = Contains turn.made datagram ⊎ WasMade before datagram

-- one of the groups made it, whose pasts are given by their indexes
pub record IsMade (config : Config) (pasts : ℕ → List GroupDeed) (datagram : List ℕ) : Type 0 where
  pub group : ℕ
  pub part : GroupPart
  pub there : slice_get config.group group ≡ Some part
  pub made : WasMade (pasts group) datagram

-- Each datagram that the read group takes was made by a group, whatever else comes.
abbrev pub CameAsMade : Setting → Config → (ℕ → List GroupDeed) → List Event → Type 0
CameAsMade setting config pasts [] = ⊤
CameAsMade setting config pasts (Got moment on datagram ∷ before) =
    ((opened : Opened) → verdict setting.group setting.setup (accepted setting before) datagram ≡ Ok opened → IsMade config pasts datagram)
    × CameAsMade setting config pasts before
CameAsMade setting config pasts (Expired moment ∷ before) = CameAsMade setting config pasts before
CameAsMade setting config pasts (Stopped reader why ∷ before) = CameAsMade setting config pasts before
