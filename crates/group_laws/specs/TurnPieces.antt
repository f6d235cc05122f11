-- What the datagrams of a turn have for the reader of a writer.
use Rattle.std.specs.Prelude.{◌≡◌, ◌≢◌, ◌≤◌, All, ℕ, List, [], ◌∷◌, map, replicate, nat_le, Option, Some, None, if◌then◌else◌}
use Rattle.std.specs.List.{flat_map}
use Rattle.chunker.specs.Chunks.{cuts}
use Rattle.chunker.specs.Spelling.{chunk_bytes}
use Rattle.fixed_layout.specs.Datagrams.{filled}
use Rattle.config_tables.specs.declared.publisher.Publisher.{Publisher}
use Rattle.config_tables.specs.declared.words.Layout.{Layout}
use Rattle.config_tables.specs.declared.words.Layout.TheVariants as layouts
use Rattle.ps_config.specs.declared.parts.Config.{Config}
use Rattle.ps_config.specs.declared.parts.GroupPart.{GroupPart}
use Rattle.ps_config.specs.FixedSound.{writer_slot}
use Rattle.ps_config.specs.Rooms.{chunk_room}
use Rattle.writer_group.specs.Envelopes.{frame_room}
use Rattle.writer_group.specs.Payloads.{Spelled, size_of, writer_at}
use Rattle.writer_group.specs.Turns.{GroupDeed, TurnInput, frame_by}
use Rattle.reader_group.specs.Members.{Seat}
use Rattle.reader_group.specs.Payloads.{Piece, Message, Chunked, Slotted, pieces}
use Rattle.group_laws.specs.Matching.{IsGroupTurn, ReadsWriter}
use Rattle.group_laws.specs.TurnOpened.{turn_opened}
use Rattle.group_laws.specs.TurnReading.{IsFixedTurn}

-- a frame as it stands in a dynamic layout: whole where it fits into a datagram, and else its chunks, in order
abbrev pub frame_pieces : ℕ → ℕ → Spelled → List Piece
frame_pieces frame_room room frame =
    if nat_le (size_of frame) frame_room
    then Message frame.bytes ∷ []
    else map (λ chunk. Chunked (chunk_bytes chunk)) (cuts room frame.number frame.bytes)

-- what the writer's answer is in a dynamic layout, if it answers
abbrev pub dynamic_pieces : Publisher → GroupPart → Option Spelled → List Piece
dynamic_pieces publisher group None = []
dynamic_pieces publisher group (Some frame) = frame_pieces (frame_room publisher group) (chunk_room publisher group) frame

-- what stands in the slot of the writer with this index in a fixed layout: its frame with zeros after it, or zeros
abbrev pub fixed_pieces : Config → GroupPart → ℕ → Option Spelled → List Piece
fixed_pieces config group writer None = Slotted (replicate (writer_slot config (writer_at group writer)).size 0) ∷ []
fixed_pieces config group writer (Some frame) = Slotted (filled (writer_slot config (writer_at group writer)) frame.bytes) ∷ []

-- what a turn has of the writer with this index by the layout, where it answers with this frame or none
abbrev pub writer_pieces : Layout → Config → GroupPart → ℕ → Option Spelled → List Piece
writer_pieces layouts.Dynamic config group writer frame = dynamic_pieces config.publisher.id group frame
writer_pieces layouts.Fixed config group writer frame = fixed_pieces config group writer frame

-- what a turn has for the reader of a writer
abbrev pub turn_pieces : Config → GroupPart → List GroupDeed → TurnInput → ℕ → List Piece
turn_pieces config group past input writer =
    writer_pieces group.layout config group writer (frame_by group past input writer)

-- ---- the laws of it

-- what the datagrams of a turn of a dynamic group of the configuration have for the reader of a writer is what that writer answered: its frame, or all the
-- chunks of it in order, or nothing
abbrev pub HaveItsFrames : Config → Type 0
HaveItsFrames config =
    (group : GroupPart) (past : List GroupDeed) (input : TurnInput) (writer : ℕ) (seat : Seat)
    → group.layout ≡ layouts.Dynamic → IsGroupTurn config group past input
    → ReadsWriter group writer seat.part
    → flat_map (λ opened. pieces seat.part opened.payload) (turn_opened config group past input)
    ≡ turn_pieces config group past input writer

-- what the datagram of a turn of a fixed group of the configuration has for the reader of a writer is what stands in that writer's slot
abbrev pub HaveItsSlot : Config → Type 0
HaveItsSlot config =
    (group : GroupPart) (past : List GroupDeed) (input : TurnInput) (writer : ℕ) (seat : Seat)
    → group.layout ≡ layouts.Fixed → IsGroupTurn config group past input
    → IsFixedTurn config group past input → ReadsWriter group writer seat.part
    → flat_map (λ opened. pieces seat.part opened.payload) (turn_opened config group past input)
    ≡ turn_pieces config group past input writer

-- a turn of a dynamic group of the configuration has nothing for the reader of a writer that isn't of the group
abbrev pub HaveNothingOfOthers : Config → Type 0
HaveNothingOfOthers config =
    (group : GroupPart) (past : List GroupDeed) (input : TurnInput) (seat : Seat)
    → group.layout ≡ layouts.Dynamic → IsGroupTurn config group past input → 1 ≤ seat.part.writer
    → All (λ writer. writer.id ≢ seat.part.writer) group.writer
    → flat_map (λ opened. pieces seat.part opened.payload) (turn_opened config group past input) ≡ []
