-- A secured read group whose datagrams one sender made: what it has for a reader, datagram by datagram.
use Rattle.std.specs.Prelude.{◌≡◌, ⊤, ℕ, List, [], ◌∷◌, All, Contains, Result, Some, Ok, Err}
use Rattle.chunker.specs.Chunks.{Chunk}
use Rattle.chunker.specs.Joins.{IsCutOf}
use Rattle.chunker.specs.Spelling.{chunk_at, without_rest}
use Rattle.chunker.specs.declared.payload.ChunkFault.{ChunkFault}
use Rattle.frame_codec.specs.declared.fault.FrameFault.{FrameFault}
use Rattle.frame_codec.specs.Frames.{Frame}
use Rattle.frame_codec.specs.Reading.{frame_at}
use Rattle.message_guard.specs.Acceptance.{Accepted}
use Rattle.pubsub_model.specs.Frames.{PlacedFrame, place_of}
use Rattle.reader_group.specs.Arrivals.{Way, frame_of, placed}
use Rattle.reader_group.specs.Opening.{Opened, verdict}
use Rattle.reader_group.specs.Payloads.{Piece, Message, Chunked, Slotted, Missing, pieces}
use Rattle.reader_group.specs.Plain.{Setting, Event, Got, Expired, Stopped}
use Rattle.reader_group.specs.Signed.{IsSignedBy}
use Rattle.reader_group.specs.SlotFrames.{slot_frame_at}

-- What a sender made for a reader: under each token the numbers of its datagrams, each with the place of the message of the reader's writer in it; and the bytes of
-- the message of each place.
pub record Making : Type 0 where
  pub sent : ℕ → List (ℕ × ℕ)
  pub bytes : ℕ → List ℕ

-- a message that gives an item gives one of this place
abbrev pub GivesPlace : Way → ℕ → ℕ → Frame → (ℕ → Type 0) → Type 0
GivesPlace way token number frame P = (given : PlacedFrame) → frame_of way (way.place token number) frame ≡ Some given → P (place_of given)

abbrev pub ReadGives : Way → ℕ → ℕ → Result Frame FrameFault → (ℕ → Type 0) → Type 0
ReadGives way token number (Ok frame) P = GivesPlace way token number frame P
ReadGives way token number (Err fault) P = ⊤

-- the place was sent under the token with the number
abbrev pub IsSentAt : Making → ℕ → ℕ → ℕ → Type 0
IsSentAt m token number place = Contains (m.sent token) (number, place)

-- a chunk is one of the message of its place, which was sent so and gives an item of that place, if it gives one
pub record IsCutFor (m : Making) (way : Way) (token number : ℕ) (chunk : Chunk) : Type 0 where
  pub sent : IsSentAt m token number (placed (way.place token number) chunk).place
  pub cut : IsCutOf (m.bytes (placed (way.place token number) chunk).place) (placed (way.place token number) chunk)
  pub read : let place = (placed (way.place token number) chunk).place in
      ReadGives way token number (frame_at way.seat.meta (m.bytes place)) (λ own. own ≡ place)

abbrev pub ChunkIsCutFor : Making → Way → ℕ → ℕ → Result Chunk ChunkFault → Type 0
ChunkIsCutFor m way token number (Ok chunk) = IsCutFor m way token number chunk
ChunkIsCutFor m way token number (Err fault) = ⊤

-- A part of the datagram with this token and number is a message that gives an item of a place that was sent under them, or a chunk of the message of such a
-- place. What a message or a slot says of its fields isn't asked: only its place. A chunk's bytes are.
abbrev pub IsPartFor : Making → Way → ℕ → ℕ → Piece → Type 0
IsPartFor m way token number (Message bytes) = ReadGives way token number (frame_at way.seat.meta bytes) (IsSentAt m token number)
IsPartFor m way token number (Chunked bytes) = ChunkIsCutFor m way token number (without_rest (chunk_at bytes))
IsPartFor m way token number (Slotted bytes) = ReadGives way token number (slot_frame_at way.seat.meta bytes) (IsSentAt m token number)
IsPartFor m way token number Missing = ⊤

-- the datagram has what the sender sent under its token and number: where the read group takes it, each part for the reader is such
abbrev pub IsMadeFor : Making → Setting → Way → List ℕ → Type 0
IsMadeFor m setting way datagram =
    (pairs : Accepted) (opened : Opened) → verdict setting.group setting.setup pairs datagram ≡ Ok opened
    → All (IsPartFor m way opened.pass.token opened.pass.number) (pieces way.seat.part opened.payload)

-- each datagram that came with a signature under a key of the ring has what the sender sent under its token and number
abbrev pub SignedAreMade : Making → Setting → Way → List Event → Type 0
SignedAreMade m setting way [] = ⊤
SignedAreMade m setting way (Got moment on datagram ∷ before) =
    (IsSignedBy setting.setup.keys datagram → IsMadeFor m setting way datagram) × SignedAreMade m setting way before
SignedAreMade m setting way (Expired moment ∷ before) = SignedAreMade m setting way before
SignedAreMade m setting way (Stopped reader why ∷ before) = SignedAreMade m setting way before
