-- What the keys of a table say, with the default beside each.
-- In an accepted table numbers are in range and words are among their choices: then no default
-- counts but those of keys that may be left out.
use Rattle.std.specs.Prelude.{ℕ, true, false, List, Option, unwrap_or, option_and_then}
use Rattle.toml.specs.Data.{Members, as_str}
use Rattle.config_tables.specs.declared.key.Key.{Key}
use Rattle.config_tables.specs.declared.key.Key.TheVariants as key
use Rattle.config_tables.specs.declared.words.Layout.{Layout}
use Rattle.config_tables.specs.declared.words.Layout.TheVariants as layout
use Rattle.config_tables.specs.declared.words.Security.{Security}
use Rattle.config_tables.specs.declared.words.Security.TheVariants as security
use Rattle.config_tables.specs.declared.words.Policy.{Policy}
use Rattle.config_tables.specs.declared.words.Policy.TheVariants as policy
use Rattle.config_tables.specs.declared.words.NumberingWord.{NumberingWord}
use Rattle.config_tables.specs.declared.words.NumberingWord.TheVariants as numbering
use Rattle.config_tables.specs.declared.publisher.Publisher.{Publisher}
use Rattle.config_tables.specs.declared.publisher.Publisher.TheVariants.{U8}
use Rattle.config_tables.specs.Values.{value_at, text_at, number_at, truth_at}
use Rattle.config_tables.specs.Words.{policy_named, layout_named, security_named, numbering_named}
use Rattle.config_tables.specs.Texts.{publisher_named, guid_spelled}
use Rattle.ps_config.specs.declared.header.HeaderSettings.{HeaderSettings}

abbrev pub max16 : ℕ
max16 = 65535

abbrev pub max32 : ℕ
max32 = 4294967295

abbrev pub layout_at : Members → Layout
layout_at members = unwrap_or (layout_named (text_at key.Layout members)) layout.Dynamic

abbrev pub security_at : Members → Security
security_at members = unwrap_or (security_named (text_at key.Security members)) security.None

abbrev pub policy_at : Members → Policy
policy_at members = unwrap_or (policy_named (text_at key.Policy members)) policy.Aes128

abbrev pub numbering_at : Members → NumberingWord
numbering_at members = unwrap_or (numbering_named (text_at key.Numbering members)) numbering.Message

abbrev pub publisher_at : Key → Members → Publisher
publisher_at key members = unwrap_or (publisher_named (text_at key members)) (U8 0)

abbrev pub class_id_at : Members → Option (List ℕ)
class_id_at members = option_and_then guid_spelled (option_and_then as_str (value_at key.ClassId members))

-- what a group's keys tell of its datagrams' headers
unfoldable pub settings_at : Members → HeaderSettings
settings_at members = record {
  id = number_at key.Id max16 0 members;
  version = number_at key.Version max32 0 members;
  sequence = truth_at key.Sequence true members;
  message_number = truth_at key.MessageNumber false members;
  class_id = class_id_at members;
  security = security_at members;
}
