-- What taking a configuration gives: that of a file, or the built-in one.
use Rattle.std.specs.Prelude.{◌≡◌, ⊤, ℕ, List, Option, Some, None, Ok, Err}
use Rattle.ua_base.specs.Files.{ToldFile}
use Rattle.ps_config.specs.declared.parts.Config.{Config}
use Rattle.ps_config.specs.BuiltIn.{built_in_config}
use Rattle.ps_config.specs.Reading.{Judgement, configuration}
use Rattle.cmd_base.specs.declared.status.Status.{Status}
use Rattle.cmd_base.specs.declared.status.Status.TheVariants.{ConfigRefused, OutOfMemory}
use Rattle.cmd_base.specs.Files.{IsRead, IsTold, EndsFile}

-- what was read is judged so
pub record IsJudged (file : ToldFile) (judgement : Judgement) : Type 0 where
  pub bytes : List ℕ
  pub read : IsRead file bytes
  pub judged : configuration bytes ≡ judgement

-- the configuration of a command that names this file, or none
abbrev pub IsConfigured : (List ℕ → ToldFile) → Option (List ℕ) → Config → Type 0
IsConfigured tells None config = config ≡ built_in_config
IsConfigured tells (Some name) config = IsJudged (tells name) (Ok config)

-- what a status says of a file that was not taken as a configuration
abbrev pub EndsConfigFile : ToldFile → List ℕ → Status → Type 0
EndsConfigFile file name (ConfigRefused code path) = IsJudged file (Err (code, path))
EndsConfigFile file name status = EndsFile file name status

-- what a status says of a command that has no configuration
abbrev pub EndsConfig : (List ℕ → ToldFile) → Option (List ℕ) → Status → Type 0
EndsConfig tells (Some name) status = EndsConfigFile (tells name) name status
EndsConfig tells None OutOfMemory = ⊤
EndsConfig tells None _ = ⊥

-- the folder tells a file that is this configuration, where one is named
abbrev pub IsToldConfig : (List ℕ → ToldFile) → Option (List ℕ) → Config → Type 0
IsToldConfig tells None config = config ≡ built_in_config
IsToldConfig tells (Some name) config = (bytes : List ℕ) × IsTold (tells name) bytes × (configuration bytes ≡ Ok config)
