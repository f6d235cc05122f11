-- Room for the messages of a group that isn't fixed, over the parts of a configuration.
use Rattle.std.specs.Prelude.{◌≡◌, ℕ, ◌+◌, ◌-◌, ◌*◌, ◌/◌, ◌==◌, Bool, true, false, ◌&&◌, ◌||◌, not, nat_lt, List, length, sum_by, slice_get, if◌then◌else◌}
use Rattle.std.specs.Option.{option_map_or}
use Rattle.uadp_header.specs.Headers.{ListOf}
use Rattle.uadp_header.specs.Spelling.{header_len}
use Rattle.dataset_meta.specs.Metas.{MetaData}
use Rattle.config_tables.specs.declared.publisher.Publisher.{Publisher}
use Rattle.config_tables.specs.declared.words.Layout.{Layout}
use Rattle.config_tables.specs.declared.words.Layout.TheVariants as layout
use Rattle.ps_config.specs.declared.header.HeaderSettings.{HeaderSettings}
use Rattle.ps_config.specs.declared.parts.GroupPart.{GroupPart}
use Rattle.ps_config.specs.declared.parts.WriterPart.{WriterPart}
use Rattle.ps_config.specs.Headers.{ids_of, header_of, signature_len}
use Rattle.fixed_layout.specs.Spelling.{raw_size}

abbrev pub is_fixed : Layout → Bool
is_fixed layout.Dynamic = false
is_fixed layout.Fixed = true

abbrev pub header_settings : GroupPart → HeaderSettings
header_settings group = record {
  id = group.id;
  version = group.version;
  sequence = group.sequence;
  message_number = group.message_number;
  class_id = group.class_id;
  security = group.security;
}

-- the bytes beside each value: its type and the field's index, and where it has a status a mask and the status
abbrev pub field_front : Bool → ℕ
field_front quality = if quality then 8 else 3

-- the longest frame of a data set: 14 bytes of front, and each field's longest value
abbrev pub largest_frame : MetaData → ℕ
largest_frame meta = 14 + field_front meta.quality * length meta.fields + raw_size meta.fields

-- the bytes of a frame that one chunk carries: beside them are the header, 14 bytes of the
-- chunk's own, and the signature
abbrev pub chunk_room : Publisher → GroupPart → ℕ
chunk_room publisher group =
    group.max_size
    - (header_len (header_of publisher (header_settings group) (ids_of true)) + 14 + signature_len group.security)

-- the datagrams that a writer's longest frame takes, each with this room
abbrev pub datagrams_of : ℕ → List MetaData → WriterPart → ℕ
datagrams_of room metas writer =
    (option_map_or largest_frame (slice_get metas writer.dataset) 0 + (room - 1)) / room

-- the datagrams of a turn in which each writer has its longest frame
abbrev pub datagrams_in : ℕ → List MetaData → List WriterPart → ℕ
datagrams_in room metas writers = sum_by (datagrams_of room metas) writers

-- in a group that isn't fixed a chunk has no room for a byte, or a turn could need more than 1,024 datagrams
abbrev pub lacks_room : Publisher → List MetaData → GroupPart → Bool
lacks_room publisher metas group =
    not (is_fixed group.layout)
    && (chunk_room publisher group == 0
    || nat_lt 1024 (datagrams_in (chunk_room publisher group) metas group.writer))

-- a dynamic group that doesn't lack room
pub record IsRoomy (publisher : Publisher) (metas : List MetaData) (group : GroupPart) : Type 0 where
  pub dynamic : is_fixed group.layout ≡ false
  pub room : lacks_room publisher metas group ≡ false

-- the header of a datagram with one frame, whose writer's id these two bytes are
abbrev pub frame_header : Publisher → GroupPart → List ℕ → ℕ
frame_header publisher group id = header_len (header_of publisher (header_settings group) (ListOf id))
