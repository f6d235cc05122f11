-- What is handed on: of a datagram that a sender spelled, and that a read group takes, just what was spelled.
use Rattle.std.specs.Prelude.{◌≡◌, ◌≢◌, ℕ, ◌^◌, ◌<◌, Bool, true, false, List, [], ◌∷◌, ◌++◌, length, replicate, All, Contains, Some, Ok}
use Rattle.std.specs.Int.{w16, to_le_bytes}
use Rattle.std.specs.List.{flat_map}
use Rattle.uadp_header.specs.Headers.{HeaderValue, IdsValue, ListOf, ChunkOf}
use Rattle.uadp_header.specs.Spelling.{IsWritten, header_bytes}
use Rattle.payload_layout.specs.Payloads as layout
use Rattle.payload_layout.specs.Payloads.{ids_in, frames_in, AreShort}
use Rattle.fixed_layout.specs.declared.slot.Slot.{Slot}
use Rattle.fixed_layout.specs.Slots.{AreApart}
use Rattle.fixed_layout.specs.Datagrams.{AreFrames, filled, slot_at, fixed_payload}
use Rattle.message_guard.specs.Modes.{is_secured}
use Rattle.message_guard.specs.Protection.{keys_with}
use Rattle.message_guard.specs.Acceptance.{Accepted}
use Rattle.message_guard.specs.Guards.{Setup}
use Rattle.message_guard.specs.Senders.{SenderState, IsSender, front_value, sent}
use Rattle.config_tables.specs.declared.words.Layout.TheVariants as layouts
use Rattle.ps_config.specs.declared.parts.ReadGroupPart.{ReadGroupPart}
use Rattle.ps_config.specs.declared.parts.ReaderPart.{ReaderPart}
use Rattle.reader_group.specs.Filter.{is_ours}
use Rattle.reader_group.specs.Payloads.{Payload, Chunk, Messages, Slotted, payload_of, pieces, reader_slot}
use Rattle.reader_group.specs.Opening.{Opened, verdict}

-- by a sender that has keys of the group's ring, and begins with its block
pub record IsProtected (setup : Setup) (header : HeaderValue) (payload datagram : List ℕ) : Type 0 where
  pub sender : SenderState
  pub is_sender : IsSender sender
  pub front : header.security ≡ Some (front_value setup.mode sender)
  pub known : keys_with setup.keys sender.keys.token ≡ Some sender.keys
  pub first_block : sender.first_block ≡ setup.first_block
  pub bytes : datagram ≡ sent setup.mode sender (header_bytes header) payload

-- protected, or as it is
abbrev pub IsLaid : Bool → Setup → HeaderValue → List ℕ → List ℕ → Type 0
IsLaid true setup header payload datagram = IsProtected setup header payload datagram
IsLaid false setup header payload datagram = datagram ≡ header_bytes header ++ payload

-- a datagram that a sender spelled with this header and payload, for a group with this security
pub record IsSpelled (setup : Setup) (header : HeaderValue) (payload datagram : List ℕ) : Type 0 where
  pub written : IsWritten header
  pub laid : IsLaid (is_secured setup.mode) setup header payload datagram

-- it is the group's, and has for the readers what the header and the payload have
pub record HasSpelled (group : ReadGroupPart) (header : HeaderValue) (payload : List ℕ) (opened : Opened) : Type 0 where
  pub ours : is_ours group header ≡ true
  pub payload_is : opened.payload ≡ payload_of group.layout header.ids (length (header_bytes header)) (header_bytes header ++ payload)

-- a group that takes a spelled datagram has of it what was spelled
abbrev pub HandsOn : ReadGroupPart → Setup → Accepted → HeaderValue → List ℕ → List ℕ → Type 0
HandsOn group setup accepted header payload datagram =
    IsSpelled setup header payload datagram → (opened : Opened)
    → verdict group setup accepted datagram ≡ Ok opened → HasSpelled group header payload opened

-- messages that were laid out with the ids of their writers are what a dynamic payload has, one for one and in order
abbrev pub MessagesComeBack : List ℕ → List (ℕ × List ℕ) → Type 0
MessagesComeBack header parts =
    All (λ id. id < 2 ^ 16) (ids_in parts) → AreShort (frames_in parts)
    → payload_of layouts.Dynamic (ListOf (flat_map (to_le_bytes w16) (ids_in parts))) (length header) (header ++ layout.dynamic_payload (frames_in parts))
    ≡ Messages parts

-- a chunk that was laid out with its writer's id is what a dynamic payload has
abbrev pub ChunkComesBack : List ℕ → ℕ → List ℕ → Type 0
ChunkComesBack header writer bytes =
    payload_of layouts.Dynamic (ChunkOf writer) (length header) (header ++ bytes) ≡ Chunk writer bytes

-- the reader has the slot at this index
pub record HasSlotAt (slots : List Slot) (index : ℕ) (reader : ReaderPart) : Type 0 where
  pub within : index < length slots
  pub offset : reader.offset ≡ (slot_at slots index).offset
  pub size : reader.size ≡ (slot_at slots index).size

abbrev pub in_slots : IdsValue → List ℕ → List Slot → List (ℕ × List ℕ) → Payload
in_slots ids header slots frames =
    payload_of layouts.Fixed ids (length header) (header ++ fixed_payload (length header) slots frames)

-- a reader's slot has the frame that was laid there, with zeros behind it, or zeros where none was
pub record HandsSlots (ids : IdsValue) (header : List ℕ) (slots : List Slot) (frames : List (ℕ × List ℕ)) (reader : ReaderPart) : Type 0 where
  pub laid : (frame : ℕ × List ℕ) → Contains frames frame → HasSlotAt slots frame.0 reader
      → pieces reader (in_slots ids header slots frames) ≡ Slotted (filled (reader_slot reader) frame.1) ∷ []
  pub free : (index : ℕ) → HasSlotAt slots index reader → All (λ frame. frame.0 ≢ index) frames
      → pieces reader (in_slots ids header slots frames) ≡ Slotted (replicate reader.size 0) ∷ []

-- for a reader a fixed payload has what was laid out at the reader's slot
abbrev pub SlotsComeBack : IdsValue → List ℕ → List Slot → List (ℕ × List ℕ) → ReaderPart → Type 0
SlotsComeBack ids header slots frames reader =
    AreApart (length header) slots → AreFrames slots frames → HandsSlots ids header slots frames reader

-- a group that takes a spelled datagram hands its payload on, whichever group and datagram
abbrev pub EachHandsOn : Type 0
EachHandsOn =
    (group : ReadGroupPart) (setup : Setup) (accepted : Accepted) (header : HeaderValue) (payload datagram : List ℕ)
    → HandsOn group setup accepted header payload datagram

-- each chunk that was laid out with its writer's id is what a dynamic payload has
abbrev pub EachChunkComesBack : Type 0
EachChunkComesBack = (header : List ℕ) (writer : ℕ) (bytes : List ℕ) → ChunkComesBack header writer bytes

-- for each reader a fixed payload has what was laid out at the reader's slot
abbrev pub EachSlotComesBack : Type 0
EachSlotComesBack =
    (ids : IdsValue) (header : List ℕ) (slots : List Slot) (frames : List (ℕ × List ℕ)) (reader : ReaderPart)
    → SlotsComeBack ids header slots frames reader
