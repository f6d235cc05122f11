-- The items of a turn: what its parts add to the list of a reader (Arrivals).
use Rattle.std.specs.Prelude.{◌≡◌, ℕ, ◌+◌, ◌%◌, true, not, if◌then◌else◌, List, ◌∷◌, All, Option, Some, None, Result, Ok, Err, ⊤}
use Rattle.pubsub_model.specs.Answers.{without_place}
use Rattle.pubsub_model.specs.Frames.{PlacedFrame, Whole, Change, Alive, carried, placed_cut}
use Rattle.chunker.specs.Chunks.{Chunk, is_proper, is_whole_at}
use Rattle.chunker.specs.Joins.{IsCutOf}
use Rattle.chunker.specs.Spelling.{chunk_at, without_rest}
use Rattle.chunker.specs.declared.payload.ChunkFault.{ChunkFault}
use Rattle.writer_group.specs.Payloads.{meta_at, spelled_by}
use Rattle.writer_group.specs.Turns.{GroupDeed, TurnInput, answer_by}
use Rattle.ps_config.specs.declared.parts.GroupPart.{GroupPart}
use Rattle.reader_group.specs.Arrivals.{Way, Mark, Laid, chunks_in, comes, goes_by_numbers, item_of, item_on, piece_on, placed}
use Rattle.reader_group.specs.Payloads.{Piece, Message, Chunked, Slotted, Missing}
use Rattle.group_laws.specs.TurnReading.{IsPartBy}

-- the place that the frame's number stands for is its own; an Alive tells it by the one before
abbrev pub IsPlacedBy : (ℕ → ℕ) → PlacedFrame → Type 0
IsPlacedBy place (Whole own row) = place (carried (Whole own row)) ≡ own
IsPlacedBy place (Change own patch) = place (carried (Change own patch)) ≡ own
IsPlacedBy place (Alive next) = place ((carried (Alive next) + 65535) % 65536) + 1 ≡ next

-- the part is a whole message or a slot
abbrev pub IsUncut : Piece → Type 0
IsUncut (Message bytes) = ⊤
IsUncut (Chunked bytes) = ⊥
IsUncut (Slotted bytes) = ⊤
IsUncut Missing = ⊥

-- a part of what the writer answered at a turn, which isn't a chunk, comes to a reader that goes by numbers and counts them right
pub record ComesWhole (group : GroupPart) (past : List GroupDeed) (input : TurnInput) (writer : ℕ) (way : Way) (place : ℕ → ℕ)
    (placed : PlacedFrame) (piece : Piece) : Type 0 where
  pub answer : answer_by group past input writer ≡ Some placed
  pub part : IsPartBy group past input writer way.seat piece
  pub uncut : IsUncut piece
  pub numbered : goes_by_numbers way ≡ true
  pub major : way.seat.meta.major ≡ (meta_at group input.told.metas writer).major
  pub placed_by : IsPlacedBy place placed

-- ---- the item of an answer

-- the frame of the item that an answer gives a reader: cut to the reader's fields, and at its place where the reader goes by numbers
abbrev pub item_frame : Way → PlacedFrame → Option PlacedFrame
item_frame way answer =
    if goes_by_numbers way
    then Some (placed_cut way.seat.meta answer)
    else without_place (placed_cut way.seat.meta answer)

-- a chunk of a message, laid at its place, stands in the list where it counts; at one that makes the message whole comes the message's item
abbrev pub chunk_adds : Way → ℕ → Option ℕ → List Mark → Option PlacedFrame → Chunk → List Mark
chunk_adds way moment stamp before item chunk =
    let chunks = chunks_in before in
    if not (is_proper chunks chunk) then before
    else if is_whole_at chunks chunk then item_on way moment stamp (Laid chunk ∷ before) item
    else Laid chunk ∷ before

abbrev pub read_adds : Way → (ℕ → ℕ) → ℕ → Option ℕ → List Mark → Option PlacedFrame → Result Chunk ChunkFault → List Mark
read_adds way place moment stamp before item (Err fault) = before
read_adds way place moment stamp before item (Ok chunk) = chunk_adds way moment stamp before item (placed place chunk)

-- what a part of a message with this item adds to the list of a reader, where this function gives the place of a number
abbrev pub part_adds : Way → (ℕ → ℕ) → ℕ → Option ℕ → List Mark → Option PlacedFrame → Piece → List Mark
part_adds way place moment stamp before item (Message bytes) = item_on way moment stamp before item
part_adds way place moment stamp before item (Chunked bytes) =
    read_adds way place moment stamp before item (without_rest (chunk_at bytes))
part_adds way place moment stamp before item (Slotted bytes) = item_on way moment stamp before item
part_adds way place moment stamp before item Missing = before

-- a chunk at this place has bytes of the message
abbrev pub IsOfMessageAt : List ℕ → ℕ → Chunk → Type 0
IsOfMessageAt message place chunk = chunk.place ≡ place → IsCutOf message chunk

-- where the part is a chunk of the message, the chunks that stand in the reader's list at its place are of it
abbrev pub JoinsItsMessage : List ℕ → ℕ → List Mark → Piece → Type 0
JoinsItsMessage message place before (Message bytes) = ⊤
JoinsItsMessage message place before (Chunked bytes) = All (IsOfMessageAt message place) (chunks_in before)
JoinsItsMessage message place before (Slotted bytes) = ⊤
JoinsItsMessage message place before Missing = ⊤

-- the bytes of the writer's answer, as it is spelled
abbrev pub message_by : GroupPart → TurnInput → ℕ → PlacedFrame → List ℕ
message_by group input writer answer = (spelled_by group input.told.metas writer answer).bytes

-- a part of what the writer answered at a turn, whole or a chunk, comes to a reader; where this goes by numbers it counts the answer's right
pub record ComesInPart (group : GroupPart) (past : List GroupDeed) (input : TurnInput) (writer : ℕ) (way : Way) (place : ℕ → ℕ)
    (answer : PlacedFrame) (before : List Mark) (piece : Piece) : Type 0 where
  pub answer_is : answer_by group past input writer ≡ Some answer
  pub part : IsPartBy group past input writer way.seat piece
  pub major : way.seat.meta.major ≡ (meta_at group input.told.metas writer).major
  pub placed_by : goes_by_numbers way ≡ true → IsPlacedBy place answer
  pub joins : JoinsItsMessage (message_by group input writer answer) (place (carried answer)) before piece

-- ---- the laws of it

-- A part of what a writer of the group answered at a turn, whichever it is, adds to a reader's list what its answer gives the reader. Whole
-- it adds the answer's item. As a chunk it adds the chunk, and the item where it makes the message whole.
abbrev pub AddsItsAnswer : GroupPart → Type 0
AddsItsAnswer group =
    (past : List GroupDeed) (input : TurnInput) (writer : ℕ) (way : Way) (place : ℕ → ℕ)
    (answer : PlacedFrame) (piece : Piece) (moment : ℕ) (stamp : Option ℕ) (before : List Mark)
    → ComesInPart group past input writer way place answer before piece
    → piece_on way place moment stamp before piece
    ≡ part_adds way place moment stamp before (item_frame way answer) piece

-- A part of what a writer of the group answered at a turn, if it isn't a chunk, adds one item to the list of a reader that goes by numbers
-- and takes this number for its place. The item is the answer, at its place, cut to the reader's fields. A jump may cut before it.
abbrev pub AddsItsItem : GroupPart → Type 0
AddsItsItem group =
    (past : List GroupDeed) (input : TurnInput) (writer : ℕ) (way : Way) (place : ℕ → ℕ)
    (placed : PlacedFrame) (piece : Piece) (moment : ℕ) (stamp : Option ℕ) (before : List Mark)
    → ComesWhole group past input writer way place placed piece
    → piece_on way place moment stamp before piece
    ≡ comes way before (item_of moment stamp (placed_cut way.seat.meta placed))

-- a part for the reader of a writer of the group that answered nothing at a turn, the zeros in its slot, adds nothing to the reader's list
abbrev pub AddsNothing : GroupPart → Type 0
AddsNothing group =
    (past : List GroupDeed) (input : TurnInput) (writer : ℕ) (way : Way) (place : ℕ → ℕ)
    (piece : Piece) (moment : ℕ) (stamp : Option ℕ) (before : List Mark)
    → answer_by group past input writer ≡ None → IsPartBy group past input writer way.seat piece
    → piece_on way place moment stamp before piece ≡ before
