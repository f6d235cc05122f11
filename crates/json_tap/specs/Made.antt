-- What stands for a configuration where there is none.
use Rattle.std.specs.Prelude.{[]}
use Rattle.config_tables.specs.declared.publisher.Publisher.TheVariants.{U8}
use Rattle.ps_config.specs.declared.parts.Config.{Config}

abbrev pub no_config : Config
no_config = record {
  publisher = record { id = U8 0; port = 0 };
  dataset = [];
  keygroup = [];
  group = [];
  readgroup = [];
}
