use Rattle.std.proofs.Common.{◌≡◌, sym, subst}
use Rattle.std.proofs.lemmas.Result.{IfOk-weaker}
use Rattle.ps_config.specs.BuiltIn.{built_in_config}
use Rattle.ps_script.specs.declared.script.Script.{Script}
use Rattle.ps_script.specs.Generated.{generated}
use Rattle.ps_script.specs.Sound.{IsScript}
use Rattle.ps_script.proofs.generated.generate.Goals as goal

pub returns-clause-sound : goal.returns-clause-sound
returns-clause-sound c =
    IfOk-weaker c.work.result (λ (script : Script). script ≡ generated c.args.n) (IsScript built_in_config)
    (λ script is. subst (IsScript built_in_config) (sym is) (c.generated_work_is_sound.ensures c.args.n c.requires.most)) c.work.ensures
