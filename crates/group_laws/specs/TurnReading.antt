-- What a reader is given of a turn.
use Rattle.std.specs.Prelude.{◌≡◌, ◌⊎◌, ℕ, ◌+◌, ◌<◌, List, length, map, fold, All, Contains, true, false, nat_le, Option, Some, None, option_map, Ok, IsErr, ⊤}
use Rattle.dataset_meta.specs.Metas.{IsMeta}
use Rattle.pubsub_model.specs.Frames.{PlacedFrame}
use Rattle.frame_codec.specs.Frames.{Alive, Frame, frame_cut}
use Rattle.frame_codec.specs.Reading.{frame_at}
use Rattle.chunker.specs.Chunks.{Chunk}
use Rattle.chunker.specs.Joining.{Joining}
use Rattle.chunker.specs.Joins.{IsCutOf, IsNewFor}
use Rattle.chunker.specs.Spelling.{chunk_at, without_rest}
use Rattle.config_tables.specs.declared.publisher.Publisher.{Publisher}
use Rattle.config_tables.specs.declared.words.Layout.TheVariants as layouts
use Rattle.ps_config.specs.declared.parts.Config.{Config}
use Rattle.ps_config.specs.declared.parts.GroupPart.{GroupPart}
use Rattle.ps_config.specs.FixedSound.{IsFixedSound}
use Rattle.writer_group.specs.Envelopes.{frame_room}
use Rattle.writer_group.specs.Payloads.{IsFrameIf, Spelled, size_of, spelled_by, writer_at, meta_at, carried_frame}
use Rattle.writer_group.specs.Standing.{AreMetas}
use Rattle.writer_group.specs.Turns.{GroupDeed, TurnInput, answer_by, frame_by}
use Rattle.reader_group.specs.declared.receipt.Receipt.{Receipt}
use Rattle.reader_group.specs.Members.{Seat, MemberValue}
use Rattle.reader_group.specs.Opening.{Opened}
use Rattle.reader_group.specs.Payloads.{Piece, Message, Chunked, Slotted, Missing, pieces}
use Rattle.reader_group.specs.Plain.{Fed, fed_on, fed_by, given}
use Rattle.reader_group.specs.SlotFrames.{slot_frame_at}
use Rattle.group_laws.specs.Matching.{IsGroupTurn, ReadsFrames, ReadsWriter}
use Rattle.group_laws.specs.TurnOpened.{turn_opened}

-- ---- what a writer answers

-- a frame of the writer's data set, cut to the fields of a reader's meta
abbrev pub frame_read : GroupPart → TurnInput → ℕ → Seat → PlacedFrame → Frame
frame_read group input writer seat placed =
    frame_cut seat.meta (carried_frame (writer_at group writer) (meta_at group input.told.metas writer) placed)

-- the frame that the writer answers at the turn, if it answers, cut to the fields of a reader's meta
abbrev pub frame_answered : GroupPart → List GroupDeed → TurnInput → ℕ → Seat → Option Frame
frame_answered group past input writer seat = option_map (frame_read group input writer seat) (answer_by group past input writer)

-- the writer's data set is one, and what it answers is a frame of it
pub record IsSampled (group : GroupPart) (past : List GroupDeed) (input : TurnInput) (writer : ℕ) : Type 0 where
  pub meta : IsMeta (meta_at group input.told.metas writer).fields
  pub frame : IsFrameIf (writer_at group writer) (meta_at group input.told.metas writer) (answer_by group past input writer)

-- ---- what comes to the reader

-- an opened datagram with its receipt
pub record Received : Type 0 where
  pub receipt : Receipt
  pub opened : Opened

-- the reader is given the parts of a datagram that raises no token
abbrev pub fed_more : Seat → Fed → Received → Fed
fed_more seat fed received = fold (fed_on seat received.receipt) fed (pieces seat.part received.opened.payload)

-- what a read group makes of an enabled reader with an opened datagram that raises no token
abbrev pub given_by : Seat → MemberValue → Received → MemberValue
given_by seat member received = (fed_by seat received.receipt false true received.opened.payload member).member

-- the reader is given the parts of opened datagrams, in order, none of which raises the token
abbrev pub fed_all : Seat → Fed → List Received → Fed
fed_all seat fed received = fold (fed_more seat) fed received

-- where the group's frame is cut, the chunks that are joined aren't of this message or a newer one
abbrev pub IsBehind : Publisher → GroupPart → Joining → Option Spelled → Type 0
IsBehind publisher group joining None = ⊤
IsBehind publisher group joining (Some frame) =
    nat_le (size_of frame) (frame_room publisher group) ≡ false → IsNewFor joining.current frame.number

-- The reader was given just this frame, with the receipt of the only datagram that it came in, or of the one whose chunk made it whole. The
-- chunks that are joined then are as before, or of this message, which is a data frame.
pub record IsGiven (seat : Seat) (receipts : List Receipt) (fed : Fed) (frame : Frame) (after : Fed) : Type 0 where
  pub receipt : Receipt
  pub one_of : Contains receipts receipt
  pub joining : Joining
  pub member : after.member ≡ record (given seat receipt fed.member frame) { joining = joining }
  pub joins : (joining ≡ fed.member.joining) ⊎ ((option_map (λ (now : ℕ × ℕ). now.0) joining.current ≡ frame.number) × (¬ (frame.content ≡ Alive)))
  pub good : after.bad ≡ fed.bad

-- the reader was given what the writer sent, if it sent something, and else is as it was
abbrev pub IsReadAs : Seat → List Receipt → Fed → Option Frame → Fed → Type 0
IsReadAs seat receipts fed None after = (after.member ≡ fed.member) × (after.bad ≡ fed.bad)
IsReadAs seat receipts fed (Some frame) after = IsGiven seat receipts fed frame after

-- in a fixed layout the reader was given what the writer sent, if it sent something; else its slot holds zeros, which are a bad part
abbrev pub IsReadInSlot : Seat → List Receipt → Fed → Option Frame → Fed → Type 0
IsReadInSlot seat receipts fed None after = (after.member ≡ fed.member) × (after.bad ≡ fed.bad + 1)
IsReadInSlot seat receipts fed (Some frame) after = IsGiven seat receipts fed frame after

-- a turn of a fixed group of a sound configuration
pub record IsFixedTurn (config : Config) (group : GroupPart) (past : List GroupDeed) (input : TurnInput) : Type 0 where
  pub fixed : IsFixedSound config
  pub metas : AreMetas config group input.told.metas
  pub sampled : (writer : ℕ) → writer < length group.writer → IsSampled group past input writer

-- ---- one part alone, whatever else comes

-- bytes that are read as a chunk of this message, under this number
pub record IsReadAsChunk (message : List ℕ) (number : ℕ) (bytes : List ℕ) : Type 0 where
  pub chunk : Chunk
  pub chunk_read : without_rest (chunk_at bytes) ≡ Ok chunk
  pub number_is : chunk.place ≡ number
  pub cut : IsCutOf message chunk

-- a part is read as the frame, or, but for an Alive, as a chunk of its one spelling, which is read as the frame
abbrev pub IsPartOf : Seat → Spelled → Frame → Piece → Type 0
IsPartOf seat spelled frame (Message bytes) = frame_at seat.meta bytes ≡ Ok frame
IsPartOf seat spelled frame (Chunked bytes) =
    (frame_at seat.meta spelled.bytes ≡ Ok frame) × IsReadAsChunk spelled.bytes spelled.number bytes × (¬ (frame.content ≡ Alive))
IsPartOf seat spelled frame (Slotted bytes) = slot_frame_at seat.meta bytes ≡ Ok frame
IsPartOf seat spelled frame Missing = ⊥

-- a slot that is read as no frame
abbrev pub IsEmptyPart : Seat → Piece → Type 0
IsEmptyPart seat (Message bytes) = ⊥
IsEmptyPart seat (Chunked bytes) = ⊥
IsEmptyPart seat (Slotted bytes) = IsErr (slot_frame_at seat.meta bytes)
IsEmptyPart seat Missing = ⊥

-- a part is of what the writer answered, if it answered, and else reads as no frame
abbrev pub IsPartIf : Seat → (PlacedFrame → Spelled) → (PlacedFrame → Frame) → Option PlacedFrame → Piece → Type 0
IsPartIf seat spelled frame None piece = IsEmptyPart seat piece
IsPartIf seat spelled frame (Some placed) piece = IsPartOf seat (spelled placed) (frame placed) piece

-- a part for the reader of a writer is of what that writer answered at this turn
abbrev pub IsPartBy : GroupPart → List GroupDeed → TurnInput → ℕ → Seat → Piece → Type 0
IsPartBy group past input writer seat piece =
    IsPartIf seat (spelled_by group input.told.metas writer) (frame_read group input writer seat) (answer_by group past input writer) piece

-- ---- the laws of it

-- A reader that takes all datagrams of a turn of a dynamic group of the configuration, in order, is given once what its writer answered.
-- Where the frame comes in chunks, this holds if it joins no chunks of a message that isn't older. Where the writer answered nothing the
-- reader is left as it was.
abbrev pub IsReadInFrames : Config → Type 0
IsReadInFrames config =
    (group : GroupPart) (past : List GroupDeed) (input : TurnInput) (writer : ℕ) (seat : Seat)
    (fed : Fed) (received : List Received) → group.layout ≡ layouts.Dynamic
    → IsGroupTurn config group past input → ReadsWriter group writer seat.part
    → ReadsFrames group input.told.metas writer seat.meta → IsSampled group past input writer
    → map (λ r. r.opened) received ≡ turn_opened config group past input
    → IsBehind config.publisher.id group fed.member.joining (frame_by group past input writer)
    → IsReadAs seat (map (λ r. r.receipt) received) fed (frame_answered group past input writer seat)
    (fed_all seat fed received)

-- A reader that takes the datagram of a turn of a fixed group of the configuration is given the key frame that its writer answered. Where
-- the writer had no turn the reader is left as it was, and the zeros in its slot are a bad part.
abbrev pub IsReadInSlots : Config → Type 0
IsReadInSlots config =
    (group : GroupPart) (past : List GroupDeed) (input : TurnInput) (writer : ℕ) (seat : Seat)
    (fed : Fed) (received : List Received) → group.layout ≡ layouts.Fixed
    → IsGroupTurn config group past input → IsFixedTurn config group past input
    → ReadsWriter group writer seat.part → seat.meta ≡ meta_at group config.dataset writer
    → map (λ r. r.opened) received ≡ turn_opened config group past input
    → IsReadInSlot seat (map (λ r. r.receipt) received) fed (frame_answered group past input writer seat)
    (fed_all seat fed received)

-- each part of a datagram of a turn of a dynamic group of the configuration, for the reader of a writer, is of what that writer answered
abbrev pub HavePartsInFrames : Config → Type 0
HavePartsInFrames config =
    (group : GroupPart) (past : List GroupDeed) (input : TurnInput) (writer : ℕ) (seat : Seat)
    → group.layout ≡ layouts.Dynamic → IsGroupTurn config group past input
    → ReadsWriter group writer seat.part → ReadsFrames group input.told.metas writer seat.meta
    → IsSampled group past input writer
    → (opened : Opened) → Contains (turn_opened config group past input) opened
    → All (IsPartBy group past input writer seat) (pieces seat.part opened.payload)

-- the part of the datagram of a turn of a fixed group of the configuration, for the reader of a writer, is of what that writer answered
abbrev pub HavePartsInSlots : Config → Type 0
HavePartsInSlots config =
    (group : GroupPart) (past : List GroupDeed) (input : TurnInput) (writer : ℕ) (seat : Seat)
    → group.layout ≡ layouts.Fixed → IsGroupTurn config group past input
    → IsFixedTurn config group past input → ReadsWriter group writer seat.part
    → seat.meta ≡ meta_at group config.dataset writer
    → (opened : Opened) → Contains (turn_opened config group past input) opened
    → All (IsPartBy group past input writer seat) (pieces seat.part opened.payload)
