-- Which readers read the lines: those of an unsecured read group in a dynamic layout that are matched to a writer.
use Rattle.std.specs.Prelude.{◌==◌, Bool, not, ◌&&◌, List, Some, flat_map, if◌then◌else◌, []}
use Rattle.std.specs.List.{filter, list_any}
use Rattle.config_tables.specs.Texts.{is_same_publisher}
use Rattle.config_tables.specs.declared.words.Layout.{Layout}
use Rattle.config_tables.specs.declared.words.Security.{Security}
use Rattle.ps_config.specs.declared.parts.Config.{Config}
use Rattle.ps_config.specs.declared.parts.GroupPart.{GroupPart}
use Rattle.ps_config.specs.declared.parts.ReadGroupPart.{ReadGroupPart}
use Rattle.ps_config.specs.declared.parts.ReaderPart.{ReaderPart}
use Rattle.ps_config.specs.declared.parts.WriterPart.{WriterPart}
use Rattle.ps_config.specs.Headers.{is_secured}
use Rattle.ps_config.specs.Rooms.{is_fixed}
use Rattle.reader_group.specs.Filter.{is_any_or, has_class}

-- unsecured, in a dynamic layout
abbrev pub is_plain : Layout → Security → Bool
is_plain layout security = not (is_fixed layout) && not (is_secured security)

-- such a read group asks for the program's publisher, and for the id, the version and the class id of such a group, or for any
abbrev pub asks_for : Config → ReadGroupPart → GroupPart → Bool
asks_for config readers group =
    is_plain group.layout group.security
    && is_same_publisher readers.publisher config.publisher.id
    && is_any_or readers.group (Some group.id) && is_any_or readers.version (Some group.version)
    && has_class readers.class_id group.class_id

-- the reader has the writer's id and data set
abbrev pub reads_writer : ReaderPart → WriterPart → Bool
reads_writer reader writer = writer.id == reader.writer && writer.dataset == reader.dataset

-- it is matched to one of the group's writers
abbrev pub reads_group : Config → ReadGroupPart → ReaderPart → GroupPart → Bool
reads_group config readers reader group = asks_for config readers group && list_any (reads_writer reader) group.writer

-- it is matched to a writer
abbrev pub is_matched : Config → ReadGroupPart → ReaderPart → Bool
is_matched config readers reader = list_any (reads_group config readers reader) config.group

-- the matched readers of a read group, where this is unsecured and in a dynamic layout
abbrev pub readers_in : Config → ReadGroupPart → List ReaderPart
readers_in config readers =
    if is_plain readers.layout readers.security then filter (is_matched config readers) readers.reader else []

-- those of all read groups, in order
abbrev pub json_readers : Config → List ReaderPart
json_readers config = flat_map (readers_in config) config.readgroup
