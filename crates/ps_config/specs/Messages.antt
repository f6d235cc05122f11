-- FrameLarge: a group whose messages have no room.
use Rattle.std.specs.Prelude.{Bool, ◌&&◌, List, map}
use Rattle.dataset_meta.specs.Metas.{MetaData}
use Rattle.config_tables.specs.declared.key.Key.TheVariants as key
use Rattle.config_tables.specs.declared.place.Part.TheVariants.{DataSet, Group}
use Rattle.config_tables.specs.Places.{is_outer}
use Rattle.config_tables.specs.Tables.{Located}
use Rattle.ps_config.specs.Configs.{data_set_of, group_of}
use Rattle.ps_config.specs.Fields.{outer_tables, publisher_members}
use Rattle.ps_config.specs.Rooms.{lacks_room}
use Rattle.ps_config.specs.Settings.{publisher_at}

abbrev pub metas_of : List Located → List MetaData
metas_of ts = map (data_set_of ts) (outer_tables DataSet ts)

-- a group that isn't fixed, in which a chunk has no room or a turn could need too many datagrams
abbrev pub is_message_large : List Located → Located → Bool
is_message_large ts t =
    is_outer Group t.place && lacks_room (publisher_at key.Id (publisher_members ts)) (metas_of ts) (group_of ts t)
