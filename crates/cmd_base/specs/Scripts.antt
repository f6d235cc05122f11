-- What reading a script gives.
use Rattle.std.specs.Prelude.{◌≡◌, ℕ, List, Bool, Result, Err}
use Rattle.ua_base.specs.Files.{ToldFile}
use Rattle.ps_config.specs.declared.parts.Config.{Config}
use Rattle.ps_script.specs.declared.fault.ScriptFault.{ScriptFault}
use Rattle.ps_script.specs.declared.script.Script.{Script}
use Rattle.ps_script.specs.Values.{ValueReader}
use Rattle.ps_script.specs.Scripts.{script}
use Rattle.cmd_base.specs.declared.status.Status.{Status}
use Rattle.cmd_base.specs.declared.status.Status.TheVariants.{ScriptRefused}
use Rattle.cmd_base.specs.Files.{IsRead, EndsFile}

-- what was read is judged so, for a session with this configuration; where links have no fates, `fates` is false
pub record IsJudgedScript (file : ToldFile) (config : Config) (fates : Bool) (judgement : Result Script (ℕ × ScriptFault)) : Type 0 where
  pub bytes : List ℕ
  pub read : IsRead file bytes
  pub judged : (reader : ValueReader) → script reader config bytes fates ≡ judgement

-- what a status says of a file that was not taken as a script
abbrev pub EndsScript : ToldFile → Config → List ℕ → Bool → Status → Type 0
EndsScript file config name fates (ScriptRefused line fault) = IsJudgedScript file config fates (Err (line, fault))
EndsScript file config name fates status = EndsFile file name status
