-- What an opened datagram has for the readers.
use Rattle.std.specs.Prelude.{ℕ, ◌==◌, Bool, List, [], ◌∷◌, length, map, filter, count_by, drop, Option, Some, None, if◌then◌else◌}
use Rattle.uadp_header.specs.Headers.{IdsValue, NoIds, ListOf, ChunkOf, ids_of}
use Rattle.payload_layout.specs.Payloads.{parts_of}
use Rattle.fixed_layout.specs.declared.slot.Slot.{Slot}
use Rattle.fixed_layout.specs.Datagrams.{slot_of}
use Rattle.config_tables.specs.declared.words.Layout.{Layout}
use Rattle.config_tables.specs.declared.words.Layout.TheVariants as layouts
use Rattle.ps_config.specs.declared.parts.ReaderPart.{ReaderPart}

-- In a fixed layout the header and the slots; in a dynamic one a chunk of a message of a writer, or messages with the ids of their writers.
pub data Payload : Type 0 where
  Slots : (datagram : List ℕ) → Payload
  Chunk : (writer : ℕ) (bytes : List ℕ) → Payload
  Messages : (parts : List (ℕ × List ℕ)) → Payload

-- in a dynamic layout, by the ids of the payload header
abbrev pub dynamic_payload : IdsValue → List ℕ → Payload
dynamic_payload NoIds bytes = Messages []
dynamic_payload (ChunkOf id) bytes = Chunk id bytes
dynamic_payload (ListOf ids) bytes = Messages (parts_of (ids_of ids) bytes)

-- of a datagram with its header, decrypted and without a signature, whose payload begins here
abbrev pub payload_of : Layout → IdsValue → ℕ → List ℕ → Payload
payload_of layouts.Fixed ids payload datagram = Slots datagram
payload_of layouts.Dynamic ids payload datagram = dynamic_payload ids (drop payload datagram)

-- a part of a datagram that a reader is given: a message, a chunk of one, what stands in its slot, or a slot that the datagram ends before
pub data Piece : Type 0 where
  Message : (bytes : List ℕ) → Piece
  Chunked : (bytes : List ℕ) → Piece
  Slotted : (bytes : List ℕ) → Piece
  Missing : Piece

abbrev pub slot_piece : Option (List ℕ) → Piece
slot_piece None = Missing
slot_piece (Some bytes) = Slotted bytes

-- what stands in a reader's slot isn't asked to need anything here
abbrev pub reader_slot : ReaderPart → Slot
reader_slot reader = record { offset = reader.offset; size = reader.size; need = 0 }

-- the parts for a reader: its slot, or what has its writer's id
abbrev pub pieces : ReaderPart → Payload → List Piece
pieces reader (Slots datagram) = slot_piece (slot_of datagram (reader_slot reader)) ∷ []
pieces reader (Chunk writer bytes) = if writer == reader.writer then Chunked bytes ∷ [] else []
pieces reader (Messages parts) =
    map (λ (part : ℕ × List ℕ). Message part.1) (filter (λ (part : ℕ × List ℕ). part.0 == reader.writer) parts)

-- how many parts there are; in a fixed layout a slot for each enabled reader
abbrev pub part_count : List Bool → Payload → ℕ
part_count on (Slots datagram) = count_by (λ enabled. enabled) on
part_count on (Chunk writer bytes) = 1
part_count on (Messages parts) = length parts
