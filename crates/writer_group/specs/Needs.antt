-- The memory that the turns of a configuration's groups need at most. All groups use the same memory, so it is that of the group that needs most.
use Rattle.std.specs.Prelude.{ℕ, ◌+◌, ◌*◌, List, [], ◌∷◌, length, max, min, if◌then◌else◌}
use Rattle.dataset_meta.specs.Metas.{MetaData}
use Rattle.config_tables.specs.declared.publisher.Publisher.{Publisher}
use Rattle.ps_config.specs.declared.parts.Config.{Config}
use Rattle.ps_config.specs.declared.parts.GroupPart.{GroupPart}
use Rattle.ps_config.specs.Rooms.{chunk_room, datagrams_in, is_fixed}
use Rattle.writer_group.specs.declared.need.Need.{Need}
use Rattle.writer_group.specs.Limits.{datagrams_bytes, frames_bytes, longest_frame, most_datagrams}

-- ---- of one group

-- the bytes of its frames, one for each writer
abbrev pub frames_need : GroupPart → ℕ
frames_need part = min frames_bytes (longest_frame * length part.writer)

-- how many datagrams: one of a fixed layout, and else as many as it takes where each writer has its longest frame
abbrev pub datagrams_need : Publisher → List MetaData → GroupPart → ℕ
datagrams_need publisher metas part =
    if is_fixed part.layout then 1 else min most_datagrams (datagrams_in (chunk_room publisher part) metas part.writer)

-- the bytes of its datagrams, each as long as the group's largest
abbrev pub bytes_need : Publisher → List MetaData → GroupPart → ℕ
bytes_need publisher metas part = min datagrams_bytes (datagrams_need publisher metas part * part.max_size)

abbrev pub group_need : Publisher → List MetaData → GroupPart → Need
group_need publisher metas part = record {
  frames = frames_need part;
  bytes = bytes_need publisher metas part;
  datagrams = datagrams_need publisher metas part;
}

-- ---- of all groups

-- the largest number of those of the groups
abbrev pub most_of : (GroupPart → ℕ) → List GroupPart → ℕ
most_of number [] = 0
most_of number (part ∷ parts) = max (number part) (most_of number parts)

abbrev pub larger : Need → Need → Need
larger one other = record {
  frames = max one.frames other.frames;
  bytes = max one.bytes other.bytes;
  datagrams = max one.datagrams other.datagrams;
}

abbrev pub need_among : Publisher → List MetaData → List GroupPart → Need
need_among publisher metas parts = record {
  frames = most_of frames_need parts;
  bytes = most_of (bytes_need publisher metas) parts;
  datagrams = most_of (datagrams_need publisher metas) parts;
}

-- with these metas of the data sets
abbrev pub need_with : Config → List MetaData → Need
need_with config metas = need_among config.publisher.id metas config.group

-- with the metas of the configuration
abbrev pub need_of : Config → Need
need_of config = need_with config config.dataset

-- that of the largest turn of any group of any configuration
abbrev pub largest_need : Need
largest_need = record { frames = frames_bytes; bytes = datagrams_bytes; datagrams = most_datagrams }

-- the bytes that are taken for so much, with what is kept of each datagram
abbrev pub reserved_bytes : Need → ℕ
reserved_bytes need = need.frames + need.bytes + 24 * need.datagrams
