-- The payloads of a turn (Payloads, Chunks, Slots): its frames as they are spelled, packed into datagrams or split into chunks, or laid into their slots.
use Rattle.std.specs.Prelude.{ℕ, List, [], ◌∷◌, ◌++◌, length, map, nat_lt, slice_index_or, false, if◌then◌else◌, Option, IfSome}
use Rattle.std.specs.Int.{w16, to_le_bytes}
use Rattle.std.specs.List.{flat_map}
use Rattle.dataset_meta.specs.declared.field.Field.{Field}
use Rattle.dataset_meta.specs.Metas.{MetaData, no_meta}
use Rattle.uadp_header.specs.Headers.{NoIds, ListOf, ChunkOf}
use Rattle.uadp_header.specs.Spelling.{header_len}
use Rattle.pubsub_model.specs.Frames.{PlacedFrame, carried}
use Rattle.frame_codec.specs.Frames.{Content, Whole, Change, Alive, Frame, IsFrame}
use Rattle.frame_codec.specs.Spelling.{front_bytes, frame_bytes}
use Rattle.frame_codec.specs.Carrying.{frame_of}
use Rattle.payload_layout.specs.Packing.{Packed, packs_of}
use Rattle.payload_layout.specs.Payloads.{dynamic_payload}
use Rattle.chunker.specs.Chunks.{Chunk, cuts}
use Rattle.chunker.specs.Spelling.{chunk_bytes}
use Rattle.fixed_layout.specs.declared.slot.Slot.{Slot}
use Rattle.fixed_layout.specs.Datagrams.{fixed_payload}
use Rattle.fixed_layout.specs.Spelling.{raw_row}
use Rattle.config_tables.specs.declared.publisher.Publisher.{Publisher}
use Rattle.config_tables.specs.declared.words.Layout.{Layout}
use Rattle.config_tables.specs.declared.words.Layout.TheVariants as layout
use Rattle.ps_config.specs.declared.parts.Config.{Config}
use Rattle.ps_config.specs.declared.parts.GroupPart.{GroupPart}
use Rattle.ps_config.specs.declared.parts.WriterPart.{WriterPart}
use Rattle.ps_config.specs.Headers.{ids_of, header_of}
use Rattle.ps_config.specs.Rooms.{header_settings, chunk_room}
use Rattle.ps_config.specs.FixedSound.{writer_slot}
use Rattle.writer_group.specs.Envelopes.{frame_room}
use Rattle.writer_group.specs.Sealing.{Payload}

-- a frame as its writer spells it: the writer's place in the group, its id, and the number that the frame carries
pub record Spelled : Type 0 where
  pub writer : ℕ
  pub id : ℕ
  pub number : ℕ
  pub bytes : List ℕ

abbrev pub size_of : Spelled → ℕ
size_of frame = length frame.bytes

-- ---- how a writer spells a frame

abbrev pub no_writer : WriterPart
no_writer = record { name = []; id = 0; dataset = 0; key_frame_count = 1; keep_alive = 0; first_number = 0; versions = false; offset = 0; size = 0 }

abbrev pub writer_at : GroupPart → ℕ → WriterPart
writer_at group writer = slice_index_or group.writer writer no_writer

-- the meta that the writer with this index has, of those of a moment
abbrev pub meta_at : GroupPart → List MetaData → ℕ → MetaData
meta_at group metas writer = slice_index_or metas (writer_at group writer).dataset no_meta

-- the fields of a frame as RawData, which has key frames alone
abbrev pub raw_content : List Field → Content → List ℕ
raw_content fields (Whole row) = raw_row fields row
raw_content fields (Change patch) = []
raw_content fields Alive = []

-- a frame of a fixed layout: its front, and its row as RawData
abbrev pub raw_frame : List Field → Frame → List ℕ
raw_frame fields frame = front_bytes 1 frame ++ raw_content fields frame.content

abbrev pub laid_frame : Layout → MetaData → Frame → List ℕ
laid_frame layout.Dynamic meta frame = frame_bytes meta.quality frame
laid_frame layout.Fixed meta frame = raw_frame meta.fields frame

abbrev pub carried_frame : WriterPart → MetaData → PlacedFrame → Frame
carried_frame writer meta placed = frame_of writer.versions meta.major meta.minor placed

-- a frame as the writer with this index spells it
abbrev pub spelled_as : WriterPart → ℕ → Layout → MetaData → PlacedFrame → Spelled
spelled_as part index layout meta placed = record {
  writer = index;
  id = part.id;
  number = carried placed;
  bytes = laid_frame layout meta (carried_frame part meta placed);
}

abbrev pub spelled_by : GroupPart → List MetaData → ℕ → PlacedFrame → Spelled
spelled_by group metas writer placed = spelled_as (writer_at group writer) writer group.layout (meta_at group metas writer) placed

-- what the writer answers is a frame of its data set, if it answers: one that can be read as it was spelled
abbrev pub IsFrameIf : WriterPart → MetaData → Option PlacedFrame → Type 0
IsFrameIf writer meta answer = IfSome answer (λ placed. IsFrame meta (carried_frame writer meta placed))

-- ---- dynamic layouts

-- the frames of one datagram
abbrev pub frames_payload : List Spelled → Payload
frames_payload frames =
    (ListOf (flat_map (to_le_bytes w16) (map (λ frame. frame.id) frames)), dynamic_payload (map (λ frame. frame.bytes) frames))

abbrev pub chunk_payload : Spelled → Chunk → Payload
chunk_payload frame chunk = (ChunkOf frame.id, chunk_bytes chunk)

-- the chunks of a frame, with this room for its bytes in each
abbrev pub chunk_payloads : ℕ → Spelled → List Payload
chunk_payloads room frame = map (chunk_payload frame) (cuts room frame.number frame.bytes)

abbrev pub pack_payloads : ℕ → Packed Spelled → List Payload
pack_payloads room pack = if pack.cut then flat_map (chunk_payloads room) pack.frames else frames_payload pack.frames ∷ []

abbrev pub dynamic_payloads : Publisher → GroupPart → List Spelled → List Payload
dynamic_payloads publisher group frames =
    flat_map (pack_payloads (chunk_room publisher group)) (packs_of size_of (frame_room publisher group) frames)

-- ---- fixed layouts

abbrev pub fixed_header : Publisher → GroupPart → ℕ
fixed_header publisher group = header_len (header_of publisher (header_settings group) (ids_of false))

abbrev pub slots_of : Config → GroupPart → List Slot
slots_of config group = map (writer_slot config) group.writer

-- frames with the indexes of their writers, which are those of their slots
abbrev pub in_slots : List Spelled → List (ℕ × List ℕ)
in_slots frames = map (λ frame. (frame.writer, frame.bytes)) frames

-- one datagram, also where no writer has a frame; none where the group has no writers
abbrev pub fixed_payloads : Config → GroupPart → List Spelled → List Payload
fixed_payloads config group frames =
    if nat_lt 0 (length group.writer)
    then (
      NoIds,
      fixed_payload (fixed_header config.publisher.id group) (slots_of config group) (in_slots frames),
    ) ∷ []
    else []

-- the payloads of a turn with these frames
abbrev pub payloads_by : Layout → Config → GroupPart → List Spelled → List Payload
payloads_by layout.Dynamic config group frames = dynamic_payloads config.publisher.id group frames
payloads_by layout.Fixed config group frames = fixed_payloads config group frames

abbrev pub payloads_of : Config → GroupPart → List Spelled → List Payload
payloads_of config group frames = payloads_by group.layout config group frames
