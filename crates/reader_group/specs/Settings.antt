-- What a configuration says of a read group.
use Rattle.std.specs.Prelude.{ℕ, [], ◌∷◌, map, replicate, Option, Some, None, slice_index_or}
use Rattle.dataset_meta.specs.Metas.{no_meta}
use Rattle.message_guard.specs.declared.keys.TokenKeys.{TokenKeys}
use Rattle.message_guard.specs.Guards.{Setup}
use Rattle.message_guard.specs.Protection.{cipher_key, keys_in}
use Rattle.config_tables.specs.declared.publisher.Publisher.TheVariants.{U8}
use Rattle.config_tables.specs.declared.words.Layout.TheVariants as layouts
use Rattle.config_tables.specs.declared.words.Security.TheVariants as security
use Rattle.config_tables.specs.declared.words.Policy.TheVariants as policies
use Rattle.ps_config.specs.declared.parts.Config.{Config}
use Rattle.ps_config.specs.declared.parts.KeyPart.{KeyPart}
use Rattle.ps_config.specs.declared.parts.KeyGroupPart.{KeyGroupPart}
use Rattle.ps_config.specs.declared.parts.ReadGroupPart.{ReadGroupPart}
use Rattle.ps_config.specs.declared.parts.ReaderPart.{ReaderPart}
use Rattle.ps_config.specs.Headers.{mode_of}
use Rattle.ps_config.specs.Rings.{key_set}
use Rattle.reader_group.specs.Members.{Seat, seat_of}
use Rattle.reader_group.specs.Plain.{Setting}

-- where there is none
abbrev pub no_group : ReadGroupPart
no_group = record {
  name = [];
  publisher = U8 0;
  group = 0;
  version = 0;
  class_id = None;
  layout = layouts.Dynamic;
  security = security.None;
  keygroup = None;
  reader = [];
}

abbrev pub group_at : Config → ℕ → ReadGroupPart
group_at config index = slice_index_or config.readgroup index no_group

abbrev pub no_keygroup : KeyGroupPart
no_keygroup = record { name = []; policy = policies.Aes128; random = []; first_block = 0; used = 0; key = [] }

abbrev pub keygroup_at : Config → ℕ → KeyGroupPart
keygroup_at config index = slice_index_or config.keygroup index no_keygroup

-- the keys of a token
abbrev pub token_keys : KeyPart → TokenKeys
token_keys key = keys_in (key_set key)

-- the keys that an unsecured group has and never uses
unfoldable pub no_keys : TokenKeys
no_keys = record { token = 0; nonce = replicate 4 0; signing = replicate 32 0; encrypting = cipher_key (replicate 16 0) }

-- what the guard is made of, by the group's key group if it has one
abbrev pub setup_by : Config → ReadGroupPart → Option ℕ → Setup
setup_by config group None = record { keys = no_keys ∷ []; mode = mode_of group.security; first_block = 0 }
setup_by config group (Some index) = record {
  keys = map token_keys (keygroup_at config index).key;
  mode = mode_of group.security;
  first_block = (keygroup_at config index).first_block;
}

abbrev pub seat_in : Config → ReaderPart → Seat
seat_in config reader = seat_of reader (slice_index_or config.dataset reader.dataset no_meta)

abbrev pub setting_by : Config → ReadGroupPart → Setting
setting_by config group = record {
  group = group;
  setup = setup_by config group group.keygroup;
  seats = map (seat_in config) group.reader;
}

-- of the read group with this index
abbrev pub setting_of : Config → ℕ → Setting
setting_of config index = setting_by config (group_at config index)
