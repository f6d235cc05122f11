-- Readers are named.
use Rattle.std.specs.Prelude.{◌≢◌, map, All, AllPairs, IsTrue}
use Rattle.dataset_meta.specs.Names.{is_name}
use Rattle.ps_config.specs.declared.parts.Config.{Config}
use Rattle.ps_config.specs.declared.parts.ReaderPart.{ReaderPart}
use Rattle.ps_report.specs.Conditions.{readers_of}

abbrev pub HasName : ReaderPart → Type 0
HasName part = IsTrue (is_name part.name)

-- each reader of all read groups has one, and no two have the same
pub record NamesReaders (config : Config) : Type 0 where
  pub names : All HasName (readers_of config.readgroup)
  pub distinct : AllPairs (λ one other. one ≢ other) (map (λ part. part.name) (readers_of config.readgroup))
