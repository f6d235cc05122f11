-- What holds of the fixed groups and read groups of every accepted configuration.
use Rattle.std.specs.Prelude.{◌≡◌, ℕ, ◌+◌, ◌-◌, Bool, true, false, map, All, slice_get, if◌then◌else◌}
use Rattle.std.specs.Option.{option_map_or}
use Rattle.uadp_header.specs.Spelling.{header_len}
use Rattle.fixed_layout.specs.declared.slot.Slot.{Slot}
use Rattle.fixed_layout.specs.Slots.{AreSlots}
use Rattle.fixed_layout.specs.Spelling.{raw_size}
use Rattle.ps_config.specs.declared.parts.Config.{Config}
use Rattle.ps_config.specs.declared.parts.GroupPart.{GroupPart}
use Rattle.ps_config.specs.declared.parts.WriterPart.{WriterPart}
use Rattle.ps_config.specs.declared.parts.ReadGroupPart.{ReadGroupPart}
use Rattle.ps_config.specs.declared.parts.ReaderPart.{ReaderPart}
use Rattle.ps_config.specs.Headers.{ids_of, header_of, signature_len}
use Rattle.ps_config.specs.Rooms.{is_fixed, header_settings}

-- the bytes of flags and number in front of a key frame's values, with the versions where they are carried
abbrev pub front_size : Bool → ℕ
front_size versions = if versions then 11 else 3

-- the bytes of a row of the data set with this index as RawData
abbrev pub raw_size_of : Config → ℕ → ℕ
raw_size_of config set = option_map_or (λ meta. raw_size meta.fields) (slice_get config.dataset set) 0

abbrev pub writer_slot : Config → WriterPart → Slot
writer_slot config writer = record {
  offset = writer.offset;
  size = writer.size;
  need = front_size writer.versions + raw_size_of config writer.dataset;
}

abbrev pub reader_slot : Config → ReaderPart → Slot
reader_slot config reader = record {
  offset = reader.offset;
  size = reader.size;
  need = 3 + raw_size_of config reader.dataset;
}

-- each message is a whole row without statuses
pub record IsFixedWriter (config : Config) (writer : WriterPart) : Type 0 where
  pub whole : writer.key_frame_count ≡ 1
  pub no_keep_alive : writer.keep_alive ≡ 0
  pub no_quality : option_map_or (λ meta. meta.quality) (slice_get config.dataset writer.dataset) false ≡ false

-- the writers' slots lie apart after the header, have room for their messages, and leave room for the signature
pub record IsFixedGroup (config : Config) (group : GroupPart) : Type 0 where
  pub writers : All (IsFixedWriter config) group.writer
  pub slots : AreSlots (header_len (header_of config.publisher.id (header_settings group) (ids_of false)))
      (group.max_size - signature_len group.security) (map (writer_slot config) group.writer)

pub record IsFixedReadGroup (config : Config) (group : ReadGroupPart) : Type 0 where
  pub slots : AreSlots 0 (65000 - signature_len group.security) (map (reader_slot config) group.reader)

pub record IsFixedSound (config : Config) : Type 0 where
  pub groups : All (λ group. is_fixed group.layout ≡ true → IsFixedGroup config group) config.group
  pub readgroups : All (λ group. is_fixed group.layout ≡ true → IsFixedReadGroup config group) config.readgroup
