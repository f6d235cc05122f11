-- What was read, where the folder tells the file.
use Rattle.std.proofs.Common.{◌≡◌, ℕ, ◌≤◌, Bool, List, length, Option, Some, None, Result, Ok, Err, sym, ◌∙◌, subst, arith}
use Rattle.ua_base.specs.Files.{ToldFile, TellsFile}
use Rattle.ua_base.proofs.Told.{TellsFile-at}
use Rattle.ps_config.specs.declared.parts.Config.{Config}
use Rattle.ps_config.specs.Reading.{Judgement, configuration}
use Rattle.ps_script.specs.declared.fault.ScriptFault.{ScriptFault}
use Rattle.ps_script.specs.declared.script.Script.{Script}
use Rattle.ps_script.specs.Scripts.{script}
use Rattle.ps_script.specs.Values.{ValueReader}
use Rattle.cmd_base.specs.Files.{most_bytes, IsLong, IsRead, IsTold}
use Rattle.cmd_base.specs.Configurations.{IsConfigured, IsJudged, IsToldConfig}
use Rattle.cmd_base.specs.Scripts.{IsJudgedScript}

pub read_told : (file : ToldFile) (bytes known : List ℕ) → file ≡ Some (Some known) → IsRead file bytes → bytes ≡ known
read_told file bytes known is read = TellsFile-at file known (λ (l : List ℕ). bytes ≡ l) is read.whole

pub read_short : (file : ToldFile) (bytes known : List ℕ) → file ≡ Some (Some known) → IsRead file bytes → length known ≤ most_bytes
read_short file bytes known is read = subst (λ (l : List ℕ). length l ≤ most_bytes) (read_told file bytes known is read) read.short

-- the judgement is that of the file
pub judged_told : (file : ToldFile) (bytes : List ℕ) (judgement : Judgement) → file ≡ Some (Some bytes) → IsJudged file judgement → configuration bytes ≡ judgement
judged_told file bytes judgement is j = subst (λ (l : List ℕ). configuration l ≡ judgement) (read_told file j.bytes bytes is j.read) j.judged

-- what was read isn't too long
pub long_read : (file : ToldFile) (bytes known : List ℕ) → file ≡ Some (Some known) → IsRead file bytes → IsLong known → ⊥
long_read file bytes known is read long = let short = read_short file bytes known is read in omega (arith, long, short)

pub long_judged : (file : ToldFile) (bytes : List ℕ) (judgement : Judgement) → file ≡ Some (Some bytes) → IsJudged file judgement → IsLong bytes → ⊥
long_judged file bytes judgement is j = long_read file j.bytes bytes is j.read

pub long_is : (file : ToldFile) (bytes : List ℕ) → file ≡ Some (Some bytes) → TellsFile file IsLong → IsLong bytes
long_is file bytes is tells = TellsFile-at file bytes IsLong is tells

pub long_short : (file : ToldFile) (bytes : List ℕ) → IsTold file bytes → TellsFile file IsLong → ⊥
long_short file bytes is tells = let long = long_is file bytes is.told tells in let short = is.short in omega (arith, long, short)

pub TellsFile-same : (P : List ℕ → Type 0) (a b : ToldFile) → a ≡ b → TellsFile a P → TellsFile b P
TellsFile-same P a b e tells = subst (λ (file : ToldFile). TellsFile file P) e tells

-- the script is that of the file
pub script_told : (reader : ValueReader) (file : ToldFile) (config : Config) (fates : Bool) (bytes : List ℕ) (judgement : Result Script (ℕ × ScriptFault)) → file ≡ Some (Some bytes)
    → IsJudgedScript file config fates judgement → script reader config bytes fates ≡ judgement
script_told reader file config fates bytes judgement is j = subst (λ (l : List ℕ). script reader config l fates ≡ judgement) (read_told file j.bytes bytes is j.read) (j.judged reader)

-- the configuration is that of the file, or the built-in one
pub config_told : (tells : List ℕ → ToldFile) (name : Option (List ℕ)) (config taken : Config) → IsToldConfig tells name config → IsConfigured tells name taken → taken ≡ config
config_told tells None config taken told configured = configured ∙ sym told
config_told tells (Some name) config taken told configured =
    let both : Ok taken ≡ Ok config = sym (judged_told (tells name) told.0 (Ok taken) told.1.told configured) ∙ told.2 in cc

-- a configuration that is told was not refused, and is not too long
pub config_not_refused : (tells : List ℕ → ToldFile) (config_name : Option (List ℕ)) (config : Config) (name : List ℕ) (refused : ℕ × List ℕ) → IsToldConfig tells config_name config
    → config_name ≡ Some name → IsJudged (tells name) (Err refused) → ⊥
config_not_refused tells None config name refused told is j = let none : None ≡ Some name = is in cc
config_not_refused tells (Some other) config name refused told is j =
    let same : other ≡ name = cc in
    let judged = subst (λ (l : List ℕ). IsJudged (tells l) (Err refused)) (sym same) j in
    let both : Ok config ≡ Err refused = sym told.2 ∙ judged_told (tells other) told.0 (Err refused) told.1.told judged in cc

pub config_not_long : (tells : List ℕ → ToldFile) (config_name : Option (List ℕ)) (config : Config) (name : List ℕ) → IsToldConfig tells config_name config → config_name ≡ Some name
    → TellsFile (tells name) IsLong → ⊥
config_not_long tells None config name told is long = let none : None ≡ Some name = is in cc
config_not_long tells (Some other) config name told is long =
    let same : other ≡ name = cc in
    long_short (tells other) told.0 told.1 (subst (λ (l : List ℕ). TellsFile (tells l) IsLong) (sym same) long)
