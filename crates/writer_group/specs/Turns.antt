-- A group's turns and their datagrams: Cadence's answers, laid out and protected. Lists have the latest first, but for writers, frames and datagrams.
use Rattle.std.specs.Prelude.{ℕ, ◌+◌, ◌-◌, List, [], ◌∷◌, ◌++◌, length, filter_map, Bool, true, ◌&&◌, ◌||◌, nat_le, ◌==◌, is_none, Option, Some, None, option_map, slice_index_or, if◌then◌else◌}
use Rattle.dataset_meta.specs.Metas.{MetaData}
use Rattle.pubsub_model.specs.Frames.{PlacedFrame}
use Rattle.pubsub_model.specs.Cadence.{WriterTurn, WriterDeed, Refreshed, HadTurn, cadence}
use Rattle.dataset_writer.specs.declared.settings.WriterSettings.{WriterSettings}
use Rattle.dataset_writer.specs.Turns.{model_settings, turn_at, latest_answer}
use Rattle.message_guard.specs.Senders.{SenderState}
use Rattle.ps_config.specs.declared.parts.Config.{Config}
use Rattle.ps_config.specs.declared.parts.GroupPart.{GroupPart}
use Rattle.ps_config.specs.declared.parts.WriterPart.{WriterPart}
use Rattle.writer_group.specs.declared.sampled.Sampled.{Sampled}
use Rattle.writer_group.specs.Sealing.{Envelope, datagrams_from, envelope_with}
use Rattle.writer_group.specs.Payloads.{Spelled, writer_at, meta_at, spelled_by, payloads_of}

-- a turn of a group: its moment, whether it is the closing one, for each writer of the group the turn that it had, where it is Operational, and the
-- datagrams
pub record GroupTurn : Type 0 where
  pub moment : ℕ
  pub closing : Bool
  pub took : List (Option WriterTurn)
  pub made : List (List ℕ)

-- what a group lives through: a refresh of a writer, and a turn
pub data GroupDeed : Type 0 where
  RefreshedWriter : (writer : ℕ) → GroupDeed
  HadGroupTurn : (turn : GroupTurn) → GroupDeed

-- ---- a writer's own part of it

abbrev pub took_by : ℕ → GroupTurn → Option WriterTurn
took_by writer turn = slice_index_or turn.took writer None

abbrev pub deed_of : ℕ → GroupDeed → Option WriterDeed
deed_of writer (RefreshedWriter other) = if other == writer then Some Refreshed else None
deed_of writer (HadGroupTurn turn) = option_map HadTurn (took_by writer turn)

abbrev pub writer_past : ℕ → List GroupDeed → List WriterDeed
writer_past writer past = filter_map (deed_of writer) past

abbrev pub settings_of : WriterPart → WriterSettings
settings_of writer = record {
  first_number = writer.first_number;
  key_frame_count = writer.key_frame_count;
  keep_alive = writer.keep_alive;
  versions = writer.versions;
}

-- whether the writer's next turn gets a key frame whatever came before: it had none yet, or was refreshed since
abbrev pub is_refreshed : ℕ → List GroupDeed → Bool
is_refreshed writer [] = true
is_refreshed writer (RefreshedWriter other ∷ before) = (other == writer) || is_refreshed writer before
is_refreshed writer (HadGroupTurn turn ∷ before) = is_none (took_by writer turn) && is_refreshed writer before

-- ---- the group's own

-- how many datagrams it made
abbrev pub made_by : GroupDeed → ℕ
made_by (RefreshedWriter writer) = 0
made_by (HadGroupTurn turn) = length turn.made

abbrev pub made_in : List GroupDeed → ℕ
made_in [] = 0
made_in (deed ∷ before) = made_by deed + made_in before

-- the moment of its last turn, at first 0; a closing turn doesn't count
abbrev pub last_moment : List GroupDeed → ℕ
last_moment [] = 0
last_moment (RefreshedWriter writer ∷ before) = last_moment before
last_moment (HadGroupTurn turn ∷ before) = if turn.closing then last_moment before else turn.moment

-- the publishing interval has passed since then (OPC 10000-14 6.2.6.2, PublishingInterval)
abbrev pub is_due : GroupPart → List GroupDeed → ℕ → Bool
is_due group past now = nat_le group.interval (now - last_moment past)

-- ---- a turn

-- what a turn's writers are given: its moment, whether it is the closing one, and the metas of the moment with their sampled rows
pub record Told : Type 0 where
  pub moment : ℕ
  pub closing : Bool
  pub metas : List MetaData
  pub rows : List Sampled

abbrev pub told_of : ℕ → Bool → List MetaData → List Sampled → Told
told_of moment closing metas rows = record { moment = moment; closing = closing; metas = metas; rows = rows }

-- what a turn is given: besides, which writers are Operational, and the sender, where the group is secured
pub record TurnInput : Type 0 where
  pub told : Told
  pub on : List Bool
  pub sender : Option SenderState

abbrev pub no_sample : Sampled
no_sample = record { row = record { words = [] }; version = 0 }

-- the turn that a writer has
abbrev pub writer_turn : GroupPart → Told → ℕ → WriterTurn
writer_turn group told writer =
    let sampled = slice_index_or told.rows (writer_at group writer).dataset no_sample in
    turn_at (meta_at group told.metas writer).fields told.moment sampled.row sampled.version told.closing

abbrev pub turn_if : GroupPart → Told → ℕ → Bool → Option WriterTurn
turn_if group told writer on = if on then Some (writer_turn group told writer) else None

-- for each writer from this index on
abbrev pub turns_from : GroupPart → Told → ℕ → List Bool → List (Option WriterTurn)
turns_from group told writer [] = []
turns_from group told writer (on ∷ rest) = turn_if group told writer on ∷ turns_from group told (writer + 1) rest

-- the frame of a writer's new turn, by its cadence, as it is spelled
abbrev pub answer_of : GroupPart → List GroupDeed → ℕ → WriterTurn → Option PlacedFrame
answer_of group past writer turn =
    latest_answer (cadence (model_settings (settings_of (writer_at group writer))) (HadTurn turn ∷ writer_past writer past))

-- what the writer with this index answers with a turn, if it has one
abbrev pub answer_to : GroupPart → List GroupDeed → ℕ → Option WriterTurn → Option PlacedFrame
answer_to group past writer None = None
answer_to group past writer (Some turn) = answer_of group past writer turn

abbrev pub frame_of_writer : GroupPart → List MetaData → List GroupDeed → ℕ → Option WriterTurn → Option Spelled
frame_of_writer group metas past writer None = None
frame_of_writer group metas past writer (Some turn) = option_map (spelled_by group metas writer) (answer_of group past writer turn)

abbrev pub list_of : {A : Type 0} → Option A → List A
list_of None = []
list_of (Some x) = x ∷ []

-- the frames of the writers from this index on, in their order
abbrev pub frames_from : GroupPart → List MetaData → List GroupDeed → ℕ → List (Option WriterTurn) → List Spelled
frames_from group metas past writer [] = []
frames_from group metas past writer (took ∷ rest) =
    list_of (frame_of_writer group metas past writer took) ++ frames_from group metas past (writer + 1) rest

abbrev pub frames_in : GroupPart → List GroupDeed → TurnInput → List Spelled
frames_in group past input = frames_from group input.told.metas past 0 (turns_from group input.told 0 input.on)

-- the turn that the writer with this index has, if it is Operational
abbrev pub turn_by : GroupPart → TurnInput → ℕ → Option WriterTurn
turn_by group input writer = slice_index_or (turns_from group input.told 0 input.on) writer None

-- what it answers, where it is Operational and answers at all
abbrev pub answer_by : GroupPart → List GroupDeed → TurnInput → ℕ → Option PlacedFrame
answer_by group past input writer = answer_to group past writer (turn_by group input writer)

-- the frame that it answers with, as it is spelled
abbrev pub frame_by : GroupPart → List GroupDeed → TurnInput → ℕ → Option Spelled
frame_by group past input writer = frame_of_writer group input.told.metas past writer (turn_by group input writer)

abbrev pub envelope_of : Config → GroupPart → List GroupDeed → Envelope
envelope_of config group past = envelope_with config group (made_in past)

-- the datagrams of a turn after these deeds
abbrev pub turn_datagrams : Config → GroupPart → List GroupDeed → TurnInput → List (List ℕ)
turn_datagrams config group past input =
    datagrams_from (envelope_of config group past) input.sender 0 (payloads_of config group (frames_in group past input))

-- the turn as it then stands in the past
abbrev pub turned : Config → GroupPart → List GroupDeed → TurnInput → GroupTurn
turned config group past input = record {
  moment = input.told.moment;
  closing = input.told.closing;
  took = turns_from group input.told 0 input.on;
  made = turn_datagrams config group past input;
}
