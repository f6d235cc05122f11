-- The built-in configuration is what its text is read as.
use Rattle.std.proofs.Common.{◌≡◌, [], Ok, refl, lit<}
use Rattle.std.specs.Fmt.{digits}
use Rattle.std.specs.Str.{is_utf8, chars}
use Rattle.std.proofs.lemmas.List.Elements.{All-nil, All-cons}
use Rattle.toml.proofs.OnLiterals.{toml_on_literals}
use Rattle.ps_config.specs.BuiltIn.{demo, built_in_writer, built_in_group, built_in_reader, built_in_read_group, built_in_config, built_in_text}
use Rattle.ps_config.specs.Configs.{data_set_of, writer_of, group_of, reader_of, read_group_of, publisher_part, config_of}
use Rattle.ps_config.specs.Reading.{configuration}
use Rattle.ps_config.specs.Refusals.{table_faults, stands}
use Rattle.ps_config.specs.FixedSound.{IsFixedSound}
use Rattle.ps_config.specs.Settings.{settings_at}
use Rattle.ps_config.specs.Sound.{IsSound}
use Rattle.ps_config.proofs.Accepted.{sound_configuration, fixed_configuration}
use Rattle.uadp_header.specs.Spelling.{header_len}
use Rattle.ps_config.specs.Types.{HasMetaTypes, HasKeyGroupTypes, HasWriterTypes, HasGroupTypes, HasReaderTypes, HasReadGroupTypes, HasTypes}

pub built_in_is_read : configuration built_in_text ≡ Ok built_in_config
unfolding toml_on_literals is_utf8 chars digits configuration table_faults stands config_of publisher_part data_set_of writer_of group_of reader_of read_group_of settings_at header_len demo built_in_writer built_in_group built_in_reader built_in_read_group built_in_config
built_in_is_read = refl

pub built_in_sound : IsSound built_in_config
built_in_sound = sound_configuration built_in_text built_in_config built_in_is_read

pub built_in_fixed : IsFixedSound built_in_config
built_in_fixed = fixed_configuration built_in_text built_in_config built_in_is_read

pub built_in_types : HasTypes built_in_config
unfolding built_in_config built_in_group built_in_writer built_in_read_group built_in_reader demo
built_in_types = record {
  publisher = lit< tt;
  port = lit< tt;
  metas = All-cons HasMetaTypes demo [] (record { major = lit< tt; minor = lit< tt }) (All-nil HasMetaTypes);
  keygroups = All-nil HasKeyGroupTypes;
  groups = All-cons HasGroupTypes built_in_group [] (record {
    id = lit< tt;
    interval = lit< tt;
    max_size = lit< tt;
    version = lit< tt;
    class_id = tt;
    writers = All-cons HasWriterTypes built_in_writer [] (record {
      id = lit< tt;
      key_frame_count = lit< tt;
      keep_alive = lit< tt;
      first_number = lit< tt;
      offset = lit< tt;
      size = lit< tt;
    }) (All-nil HasWriterTypes);
  }) (All-nil HasGroupTypes);
  readgroups = All-cons HasReadGroupTypes built_in_read_group [] (record {
    publisher = lit< tt;
    group_id = lit< tt;
    version = lit< tt;
    class_id = tt;
    readers = All-cons HasReaderTypes built_in_reader [] (record {
      writer = lit< tt;
      timeout = lit< tt;
      offset = lit< tt;
      size = lit< tt;
    }) (All-nil HasReaderTypes);
  }) (All-nil HasReadGroupTypes);
}
