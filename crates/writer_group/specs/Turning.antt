-- What holds of each turn that the definitions make, whoever makes it, and what it asks of the configuration, the sender and the data sets of its moment.
use Rattle.std.specs.Prelude.{◌≡◌, ℕ, ◌<◌, ◌≤◌, ◌^◌, false, true, List, length, All, Contains, Option, Some, IfSome, is_some}
use Rattle.std.specs.List.{HoldsAt}
use Rattle.ua_binary.specs.Wire.{flag}
use Rattle.uadp_header.specs.Spelling.{IsPublisher, len_if}
use Rattle.dataset_meta.specs.Metas.{MetaData, IsMeta}
use Rattle.pubsub_model.specs.Cadence.{HasRowsOf, WriterTurn, cadence, next_place}
use Rattle.pubsub_model.specs.Frames.{Whole}
use Rattle.dataset_writer.specs.Turns.{model_settings}
use Rattle.message_guard.specs.Senders.{SenderState}
use Rattle.ps_config.specs.declared.parts.Config.{Config}
use Rattle.ps_config.specs.declared.parts.GroupPart.{GroupPart}
use Rattle.ps_config.specs.Headers.{publisher_value}
use Rattle.ps_config.specs.Rooms.{lacks_room}
use Rattle.ps_config.specs.Sound.{IsSound}
use Rattle.writer_group.specs.Answering.{AreAnswers, with_turn}
use Rattle.writer_group.specs.Limits.{most_datagrams}
use Rattle.writer_group.specs.Payloads.{IsFrameIf, Spelled, meta_at, payloads_of, writer_at}
use Rattle.writer_group.specs.Sealing.{AreWritten, datagrams_from, envelope_with}
use Rattle.writer_group.specs.Standing.{AreMetas, IsGood, IsSenderFor}
use Rattle.writer_group.specs.Turns.{GroupDeed, TurnInput, answer_by, answer_of, envelope_of, frames_in, is_refreshed, settings_of, turn_by, turn_datagrams, writer_past}

-- what the headers of a group have by their types: the publisher's id is of its kind, a GroupVersion has 32 bits, and a class id 16 bytes
pub record HasHeaderTypes (config : Config) (part : GroupPart) : Type 0 where
  pub publisher : IsPublisher (publisher_value config.publisher.id)
  pub version : part.version < 2 ^ 32
  pub class_id : IfSome part.class_id (λ guid. length guid ≡ 16)

-- what the fronts of a sender have by their types: 4 random bytes, and a token of 32 bits
pub record CanGiveFronts (s : SenderState) : Type 0 where
  pub random : length s.random ≡ 4
  pub token : s.keys.token < 2 ^ 32

-- the group has room for the frames of its writers' data sets, which are there
pub record IsFitFor (config : Config) (part : GroupPart) (metas : List MetaData) : Type 0 where
  pub room : lacks_room config.publisher.id metas part ≡ false
  pub metas_are : All (λ meta. IsMeta meta.fields) metas
  pub known : All (λ writer. writer.dataset < length metas) part.writer

-- it holds of each turn of each group, whatever came before
abbrev pub OfEachTurn : (Config → GroupPart → List GroupDeed → TurnInput → Type 0) → Type 0
OfEachTurn P = (config : Config) (part : GroupPart) (past : List GroupDeed) (input : TurnInput) → P config part past input

-- the headers of the turn's datagrams can be written, where the configuration is sound and has the group, and where headers and fronts have what their
-- types say
abbrev pub HasWrittenHeaders : Config → GroupPart → List GroupDeed → TurnInput → Type 0
HasWrittenHeaders config part past input =
    IsSound config → Contains config.group part → HasHeaderTypes config part → IfSome input.sender CanGiveFronts
    → AreWritten (envelope_of config part past) input.sender 0 (payloads_of config part (frames_in part past input))

-- what a writer answers is a frame of its data set, where its rows since its last refresh are of this, with the turn's own, and the versions have 32 bits
abbrev pub AnswersFrame : GroupPart → List GroupDeed → TurnInput → ℕ → Type 0
AnswersFrame part past input writer =
    let meta = meta_at part input.told.metas writer in meta.major < 2 ^ 32 → meta.minor < 2 ^ 32
    → HasRowsOf meta (with_turn (turn_by part input writer) (writer_past writer past))
    → IsFrameIf (writer_at part writer) meta (answer_by part past input writer)

-- the turn makes at most 1,024 datagrams, where the group has room for the frames of its writers' data sets, no more writers are told of than there are,
-- and what each writer answers is a frame
abbrev pub MakesFewDatagrams : Config → GroupPart → List GroupDeed → TurnInput → Type 0
MakesFewDatagrams config part past input =
    IsFitFor config part input.told.metas → length input.on ≤ length part.writer
    → ((writer : ℕ) → writer < length part.writer
    → IsFrameIf (writer_at part writer) (meta_at part input.told.metas writer) (answer_by part past input writer))
    → length (turn_datagrams config part past input) ≤ most_datagrams

-- each datagram of the turn has a byte
abbrev pub MakesBytes : Config → GroupPart → List GroupDeed → TurnInput → Type 0
MakesBytes config part past input = All (λ datagram. 0 < length datagram) (turn_datagrams config part past input)

-- the turn makes a datagram for each of its payloads
abbrev pub MakesOneOfEach : Config → GroupPart → List GroupDeed → TurnInput → Type 0
MakesOneOfEach config part past input =
    length (turn_datagrams config part past input) ≡ length (payloads_of config part (frames_in part past input))

-- a turn makes a datagram where a writer of the group has a frame
abbrev pub MakesSome : Config → GroupPart → Type 0
MakesSome config part =
    (metas : List MetaData) (past : List GroupDeed) (input : TurnInput) → 0 < length part.writer → lacks_room config.publisher.id metas part ≡ false
    → 0 < length (frames_in part past input) → 0 < length (turn_datagrams config part past input)

-- a writer that is fresh answers each turn with a key frame
abbrev pub SendsKeyFrames : GroupPart → List GroupDeed → Type 0
SendsKeyFrames part past =
    (writer : ℕ) (turn : WriterTurn) → is_refreshed writer past ≡ true → let s = model_settings (settings_of (writer_at part writer)) in
    answer_of part past writer turn ≡ Some (Whole (next_place s (cadence s (writer_past writer past))) turn.row)

-- no datagram of the group with this index is longer than its MaxNetworkMessageSize
abbrev pub KeepsMaxSize : Config → ℕ → Type 0
KeepsMaxSize config index =
    (made : ℕ) (metas : List MetaData) (frames : List Spelled) (sender : Option SenderState) → IsGood config → index < length config.group
    → HoldsAt (λ part. len_if length part.class_id ≡ flag (is_some part.class_id) 16 → IsSenderFor part sender → AreMetas config part metas
    → AreAnswers part metas (length part.writer) frames
    → All (λ datagram. length datagram ≤ part.max_size) (datagrams_from (envelope_with config part made) sender 0 (payloads_of config part frames)))
    config.group index
