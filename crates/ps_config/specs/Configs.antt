-- The configuration that accepted tables are.
use Rattle.std.specs.Prelude.{ℕ, ◌^◌, Bool, true, false, List, map, Option, unwrap_or, option_and_then, if◌then◌else◌}
use Rattle.toml.specs.Data.{Members, as_str}
use Rattle.dataset_meta.specs.Metas.{MetaData}
use Rattle.config_tables.specs.declared.place.Part.{Part}
use Rattle.config_tables.specs.declared.place.Part.TheVariants.{DataSet, KeyGroup, Group, ReadGroup}
use Rattle.config_tables.specs.declared.key.Key.{Key}
use Rattle.config_tables.specs.declared.key.Key.TheVariants as key
use Rattle.config_tables.specs.declared.words.Policy.{Policy}
use Rattle.config_tables.specs.declared.words.Policy.TheVariants as policy
use Rattle.ps_config.specs.declared.parts.Config.{Config}
use Rattle.ps_config.specs.declared.parts.PublisherPart.{PublisherPart}
use Rattle.ps_config.specs.declared.parts.GroupPart.{GroupPart}
use Rattle.ps_config.specs.declared.parts.WriterPart.{WriterPart}
use Rattle.ps_config.specs.declared.parts.ReaderPart.{ReaderPart}
use Rattle.ps_config.specs.declared.parts.ReadGroupPart.{ReadGroupPart}
use Rattle.ps_config.specs.declared.parts.KeyPart.{KeyPart}
use Rattle.ps_config.specs.declared.parts.KeyGroupPart.{KeyGroupPart}
use Rattle.ps_config.specs.Faults.{index_named}
use Rattle.ps_config.specs.Fields.{name_at, outer_tables, elements_of, fields_of, publisher_members}
use Rattle.config_tables.specs.Places.{index_of}
use Rattle.config_tables.specs.Tables.{Located}
use Rattle.config_tables.specs.Values.{value_at, text_at, number_at, truth_at, at_most}
use Rattle.ps_config.specs.Settings.{max16, max32, layout_at, security_at, policy_at, numbering_at, publisher_at, class_id_at}
use Rattle.config_tables.specs.Texts.{hex_bytes}

abbrev pub is_long : Policy → Bool
is_long policy.Aes128 = false
is_long policy.Aes256 = true

-- the bytes of an encrypting key, by the key group's policy
abbrev pub encrypting_at : Located → List ℕ
encrypting_at t =
    if is_long (policy_at t.outer) then hex_bytes 32 (text_at key.Encrypting t.members)
    else hex_bytes 16 (text_at key.Encrypting t.members)

-- the index of the element that the text at a key names
abbrev pub index_at : Part → Key → List Located → Members → Option ℕ
index_at part key ts members =
    option_and_then (at_most 255)
    (option_and_then (λ name. index_named part name ts) (option_and_then as_str (value_at key members)))

unfoldable pub data_set_of : List Located → Located → MetaData
data_set_of ts t = record {
  name = name_at t.members;
  fields = fields_of ts (index_of t.place);
  major = number_at key.Major max32 1 t.members;
  minor = number_at key.Minor max32 0 t.members;
  quality = truth_at key.Quality false t.members;
}

unfoldable pub writer_of : List Located → Located → WriterPart
writer_of ts t = record {
  name = name_at t.members;
  id = number_at key.Id max16 0 t.members;
  dataset = unwrap_or (index_at DataSet key.DataSet ts t.members) 0;
  key_frame_count = number_at key.KeyFrameCount max16 1 t.members;
  keep_alive = number_at key.KeepAlive 3600000 0 t.members;
  first_number = number_at key.FirstNumber max16 0 t.members;
  versions = truth_at key.Versions false t.members;
  offset = number_at key.Offset 65000 0 t.members;
  size = number_at key.Size 65000 0 t.members;
}

unfoldable pub group_of : List Located → Located → GroupPart
group_of ts t = record {
  name = name_at t.members;
  id = number_at key.Id max16 0 t.members;
  interval = number_at key.Interval 3600000 0 t.members;
  max_size = number_at key.MaxSize 65000 1400 t.members;
  layout = layout_at t.members;
  security = security_at t.members;
  keygroup = index_at KeyGroup key.KeyGroup ts t.members;
  version = number_at key.Version max32 0 t.members;
  sequence = truth_at key.Sequence true t.members;
  message_number = truth_at key.MessageNumber false t.members;
  class_id = class_id_at t.members;
  writer = map (writer_of ts) (elements_of Group (index_of t.place) ts);
}

unfoldable pub reader_of : List Located → Located → ReaderPart
reader_of ts t = record {
  name = name_at t.members;
  writer = number_at key.Writer max16 0 t.members;
  dataset = unwrap_or (index_at DataSet key.DataSet ts t.members) 0;
  timeout = number_at key.Timeout 3600000 0 t.members;
  numbering = numbering_at t.members;
  offset = number_at key.Offset 65000 0 t.members;
  size = number_at key.Size 65000 0 t.members;
}

unfoldable pub read_group_of : List Located → Located → ReadGroupPart
read_group_of ts t = record {
  name = name_at t.members;
  publisher = publisher_at key.Publisher t.members;
  group = number_at key.Group max16 0 t.members;
  version = number_at key.Version max32 0 t.members;
  class_id = class_id_at t.members;
  layout = layout_at t.members;
  security = security_at t.members;
  keygroup = index_at KeyGroup key.KeyGroup ts t.members;
  reader = map (reader_of ts) (elements_of ReadGroup (index_of t.place) ts);
}

unfoldable pub key_of : Located → KeyPart
key_of t = record {
  token = number_at key.Token max32 0 t.members;
  from = number_at key.From (2 ^ 40) 0 t.members;
  signing = hex_bytes 32 (text_at key.Signing t.members);
  encrypting = encrypting_at t;
  nonce = hex_bytes 4 (text_at key.Nonce t.members);
}

unfoldable pub key_group_of : List Located → Located → KeyGroupPart
key_group_of ts t = record {
  name = name_at t.members;
  policy = policy_at t.members;
  random = hex_bytes 4 (text_at key.Random t.members);
  first_block = number_at key.FirstBlock 1 1 t.members;
  used = number_at key.Used max32 0 t.members;
  key = map key_of (elements_of KeyGroup (index_of t.place) ts);
}

unfoldable pub publisher_part : Members → PublisherPart
publisher_part members = record { id = publisher_at key.Id members; port = number_at key.Port max16 0 members }

unfoldable pub config_of : List Located → Config
config_of ts = record {
  publisher = publisher_part (publisher_members ts);
  dataset = map (data_set_of ts) (outer_tables DataSet ts);
  keygroup = map (key_group_of ts) (outer_tables KeyGroup ts);
  group = map (group_of ts) (outer_tables Group ts);
  readgroup = map (read_group_of ts) (outer_tables ReadGroup ts);
}
