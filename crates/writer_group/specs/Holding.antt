-- What the parts of a turn in memory stand for.
use Rattle.std.specs.Prelude.{◌≡◌, ℕ, ◌+◌, ◌*◌, ◌≤◌, List, [], ◌∷◌, length, map, take, drop, All, Option, Some, None, slice_range, slice_index_or}
use Rattle.std.specs.Int.{w16, to_le_bytes}
use Rattle.std.specs.List.{flat_map}
use Rattle.ua_binary.specs.declared.pen.Pen.{Pen}
use Rattle.dataset_meta.specs.Metas.{MetaData}
use Rattle.uadp_header.specs.declared.header.Header.{Header}
use Rattle.uadp_header.specs.declared.header.Ids.{Ids}
use Rattle.uadp_header.specs.declared.header.SecurityPart.{SecurityPart}
use Rattle.uadp_header.specs.Headers.{PublisherValue, SecurityValue, HeaderValue, NoIds, header_in, if_there, ids_in, publisher_in, security_in}
use Rattle.uadp_header.specs.Spelling.{publisher_len, IsPublisher, IsShortText, header_bytes}
use Rattle.frame_codec.specs.declared.frame.Frame.{Frame as FrameWords}
use Rattle.frame_codec.specs.Words.{frame_in}
use Rattle.chunker.specs.Chunks.{cut_at}
use Rattle.fixed_layout.specs.declared.slot.Slot.{Slot}
use Rattle.fixed_layout.specs.Datagrams.{fixed_payload}
use Rattle.config_tables.specs.declared.words.Layout.{Layout}
use Rattle.ps_config.specs.declared.header.HeaderSettings.{HeaderSettings}
use Rattle.ps_config.specs.declared.parts.WriterPart.{WriterPart}
use Rattle.ps_config.specs.Rooms.{header_settings}
use Rattle.writer_group.specs.declared.header_parts.HeaderParts.{HeaderParts}
use Rattle.writer_group.specs.declared.spelled.SpelledFrame.{SpelledFrame}
use Rattle.writer_group.specs.declared.spelled.Frames.{Frames}
use Rattle.writer_group.specs.declared.laying.Cargo.{Cargo}
use Rattle.writer_group.specs.declared.load.Load.{Load}
use Rattle.writer_group.specs.declared.load.Load.TheVariants as loads
use Rattle.writer_group.specs.Envelopes.{Numbering, numbered_header}
use Rattle.writer_group.specs.Sealing.{Payload, Envelope}
use Rattle.writer_group.specs.Payloads.{Spelled, size_of, laid_frame, frames_payload, chunk_payload, in_slots}

-- ---- headers

abbrev pub settings_in : HeaderParts → HeaderSettings
settings_in parts = header_settings parts.group.now

abbrev pub envelope_in : HeaderParts → Envelope
envelope_in parts = record { publisher = publisher_in parts.publisher; settings = settings_in parts; made = parts.made }

abbrev pub numbering_of : Envelope → ℕ → Option SecurityValue → Numbering
numbering_of envelope index security = record { sequence = envelope.made + index; message = index + 1; security = security }

-- the header of the turn's datagram with this index, these ids and this security header
abbrev pub header_by : HeaderParts → ℕ → Option SecurityPart → Ids → HeaderValue
header_by parts index security ids =
    numbered_header (publisher_in parts.publisher) (settings_in parts) (numbering_of (envelope_in parts) index (if_there security_in security)) (ids_in ids)

-- a publisher's id that can be written
pub record CanBeWritten (publisher : PublisherValue) : Type 0 where
  pub known : IsPublisher publisher
  pub short : IsShortText publisher
  pub len : publisher_len publisher ≤ 260

-- ---- spelled frames

abbrev pub spelled_at : List ℕ → SpelledFrame → Spelled
spelled_at bytes frame = record {
  writer = frame.writer;
  id = frame.id;
  number = frame.number;
  bytes = slice_range bytes frame.start frame.end;
}

abbrev pub all_spelled : List ℕ → List SpelledFrame → List Spelled
all_spelled bytes frames = map (spelled_at bytes) frames

-- the frames that are kept, their sizes and their ids; after these stand earlier ones
abbrev pub listed : Frames → List SpelledFrame
listed frames = take frames.count frames.list

abbrev pub listed_sizes : Frames → List ℕ
listed_sizes frames = take frames.count frames.sizes

abbrev pub listed_ids : Frames → List ℕ
listed_ids frames = take (2 * frames.count) frames.ids

abbrev pub frames_at : List ℕ → Frames → List Spelled
frames_at bytes frames = all_spelled bytes (listed frames)

-- the bytes of frames one after another
abbrev pub all_bytes : List ℕ → List SpelledFrame → List ℕ
all_bytes bytes frames = flat_map (λ frame. (spelled_at bytes frame).bytes) frames

pub record IsWithin (end : ℕ) (frame : SpelledFrame) : Type 0 where
  pub rising : frame.start ≤ frame.end
  pub within : frame.end ≤ end

abbrev pub id_bytes : List Spelled → List ℕ
id_bytes frames = flat_map (to_le_bytes w16) (map (λ frame. frame.id) frames)

-- they stand one after another, the first from this byte on, and the last up to that one
abbrev pub StandFrom : ℕ → List SpelledFrame → ℕ → Type 0
StandFrom start [] end = start ≡ end
StandFrom start (frame ∷ frames) end = (frame.start ≡ start) × StandFrom frame.end frames end

-- their sizes and ids are those of what is spelled, and each has at most 2,048 bytes
pub record AreSpelledIn (bytes : List ℕ) (frames : Frames) : Type 0 where
  pub sizes : listed_sizes frames ≡ map size_of (frames_at bytes frames)
  pub ids : listed_ids frames ≡ id_bytes (frames_at bytes frames)
  pub within : All (IsWithin frames.end) (listed frames)
  pub stand : StandFrom 0 (listed frames) frames.end
  pub short : frames.end ≤ 2048 * length (listed frames)
  pub end_within : frames.end ≤ length bytes

abbrev pub number_or_zero : Option ℕ → ℕ
number_or_zero None = 0
number_or_zero (Some number) = number

-- a frame in words, as a writer with this index spells it
abbrev pub spelled_words : Layout → ℕ → WriterPart → MetaData → FrameWords → Spelled
spelled_words layout writer part meta frame = record {
  writer = writer;
  id = part.id;
  number = number_or_zero frame.number;
  bytes = laid_frame layout meta (frame_in meta.fields frame);
}

-- ---- loads

abbrev pub no_frame : Spelled
no_frame = record { writer = 0; id = 0; number = 0; bytes = [] }

-- what the datagrams of a turn carry: the frames, the bytes of a frame that one chunk carries, the length of a fixed datagram's header, and its slots
pub record CargoValue : Type 0 where
  pub frames : List Spelled
  pub room : ℕ
  pub start : ℕ
  pub slots : List Slot

abbrev pub cargo_in : Cargo → CargoValue
cargo_in cargo = record {
  frames = frames_at cargo.bytes.now cargo.frames.now;
  room = cargo.room;
  start = cargo.slots.now.start;
  slots = cargo.slots.now.slots;
}

abbrev pub frame_at : CargoValue → ℕ → Spelled
frame_at cargo index = slice_index_or cargo.frames index no_frame

abbrev pub chunk_load : ℕ → Spelled → ℕ → Payload
chunk_load room frame index = chunk_payload frame (cut_at room frame.number frame.bytes index)

abbrev pub slots_payload : CargoValue → Payload
slots_payload cargo = (NoIds, fixed_payload cargo.start cargo.slots (in_slots cargo.frames))

abbrev pub payload_in : CargoValue → Load → Payload
payload_in cargo (loads.Frames first count) = frames_payload (take count (drop first cargo.frames))
payload_in cargo (loads.Chunk frame index) = chunk_load cargo.room (frame_at cargo frame) index
payload_in cargo loads.Slots = slots_payload cargo

-- what stands after the header of the datagram with this load
abbrev pub payload_by : Cargo → Load → List ℕ
payload_by cargo load = (payload_in (cargo_in cargo) load).1

-- the payloads of datagrams with these loads
abbrev pub payloads_in : Cargo → List Load → List Payload
payloads_in cargo loads = map (payload_in (cargo_in cargo)) loads

-- what stands after the header of a datagram with so many frames, from the one with this index on
abbrev pub frames_by : Cargo → ℕ → ℕ → List ℕ
frames_by cargo first count = (frames_payload (take count (drop first (cargo_in cargo).frames))).1

-- what stands after the header of a datagram with this chunk of this frame
abbrev pub chunk_by : Cargo → ℕ → ℕ → List ℕ
chunk_by cargo frame index = (chunk_load cargo.room (frame_at (cargo_in cargo) frame) index).1

-- the bytes of a header
abbrev pub header_text : Header → List ℕ
header_text header = header_bytes (header_in header)

-- the pen has room for a header and what stands after it
abbrev pub HasRoom : Pen → List ℕ → List ℕ → Type 0
HasRoom pen header payload = pen.at + length header + length payload ≤ length pen.bytes.now
