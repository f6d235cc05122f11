-- What is judged, and the script.
use Rattle.std.proofs.Common.{◌≡◌, ℕ, Bool, List, Ok, sym, ap, ◌∙◌}
use Rattle.dataset_meta.specs.Metas.{MetaData}
use Rattle.ps_config.specs.declared.parts.Config.{Config}
use Rattle.ps_script.specs.declared.script.Line.{Line}
use Rattle.ps_script.specs.declared.script.Script.{Script}
use Rattle.ps_script.specs.declared.read.ScriptEnd.{ScriptEnd}
use Rattle.ps_script.specs.declared.read.ScriptEnd.TheVariants.{Refused, Memory}
use Rattle.ps_script.specs.Texts.{lines_of}
use Rattle.ps_script.specs.Values.{ValueReader}
use Rattle.ps_script.specs.Past.{Done}
use Rattle.ps_script.specs.Acts.{acts_from}
use Rattle.ps_script.specs.Scripts.{judged, script_with, script_by, script, IsEnd, IsEndOf}

same_judged : (reader : ValueReader) (config given : Config) (bytes : List ℕ) (takes_fates mode : Bool) → given ≡ config → mode ≡ takes_fates → judged reader config takes_fates bytes ≡ judged reader given mode bytes
same_judged reader config given bytes takes_fates mode is_config is_plain =
    ap (λ (c : Config). judged reader c takes_fates bytes) (sym is_config) ∙ ap (λ (p : Bool). judged reader given p bytes) (sym is_plain)

-- what refuses the lines refuses the script
pub ended : (reader : ValueReader) (config given : Config) (bytes : List ℕ) (takes_fates mode : Bool) (end : ScriptEnd) → given ≡ config → mode ≡ takes_fates → IsEndOf (judged reader given mode bytes) end → IsEnd (script reader config bytes takes_fates) end
ended reader config given bytes takes_fates mode Memory is_config is_plain e = e
ended reader config given bytes takes_fates mode (Refused line fault) is_config is_plain e =
    ap (script_by reader config bytes) (same_judged reader config given bytes takes_fates mode is_config is_plain ∙ e)

-- accepted lines are the script
pub accepted : (reader : ValueReader) (config given : Config) (bytes : List ℕ) (takes_fates mode : Bool) (done : Done) (metas : List MetaData) (lines : List Line) (found : Script) → given ≡ config → mode ≡ takes_fates → judged reader given mode bytes ≡ Ok done → metas ≡ done.metas → lines ≡ acts_from reader given metas 1 (lines_of bytes) → found ≡ record { lines = lines; metas = metas } → script reader config bytes takes_fates ≡ Ok found
unfolding script_with
accepted reader config given bytes takes_fates mode done metas lines found is_config is_plain judged is_metas is_lines is =
    let a : script reader config bytes takes_fates ≡ Ok (script_with reader config bytes done.metas) =
    ap (script_by reader config bytes) (same_judged reader config given bytes takes_fates mode is_config is_plain ∙ judged) in
    let b : script_with reader config bytes done.metas ≡ script_with reader config bytes metas = ap (script_with reader config bytes) (sym is_metas) in
    let c : script_with reader config bytes metas ≡ script_with reader given bytes metas = ap (λ (k : Config). script_with reader k bytes metas) (sym is_config) in
    let make : List Line → Script = λ ls. record { lines = ls; metas = metas } in
    let d : script_with reader given bytes metas ≡ make lines = ap make (sym is_lines) in
    a ∙ ap Ok (b ∙ c ∙ d ∙ sym is)
