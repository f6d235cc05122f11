-- A script's crew that has run, and the session beside it that is then finished: all that is known when it is closed. Lists of steps have the latest first.
use Rattle.std.specs.Prelude.{◌≡◌, ℕ, ◌<◌, List, length, map, All, Option}
use Rattle.ua_base.specs.Journal.{LinkState}
use Rattle.version_cell.specs.Cells.{CellData, IsCell}
use Rattle.target_cells.specs.Keeping.{TargetsData}
use Rattle.app_threads.specs.declared.done.Done.{Done}
use Rattle.app_threads.specs.Duties.{Duty, duty_at}
use Rattle.app_threads.specs.Crews.{AreDone, AreReady, AreUnseen}
use Rattle.ps_config.specs.declared.parts.Config.{Config}
use Rattle.ps_report.specs.declared.closed.Closed.{Closed}
use Rattle.ps_script.specs.declared.script.Script.{Script}
use Rattle.ps_script.specs.Sound.{IsScript}
use Rattle.session_model.specs.Steps.{Step}
use Rattle.pubsub_engine.specs.declared.session.Session.{Session}
use Rattle.pubsub_engine.specs.Holding.{AreTargetsOf, IsBankOf}
use Rattle.pubsub_engine.specs.Standing.{Stands}
use Rattle.script_player.specs.Plays.{plan_by}
use Rattle.script_player.specs.Sizes.{quotas_by}
use Rattle.script_runner.specs.Finishing.{Finishes}
use Rattle.script_runner.specs.Lists.{items_by}

-- eight threads that may run what the script has for each, with quotas that are its writes, and that have seen nothing yet
pub record AreDutiesOf (config : Config) (script : Script) (bank targets : List CellData) (duties : List Duty) : Type 0 where
  pub cells : All IsCell bank
  pub quotas : map (λ cell. cell.quotas) bank ≡ quotas_by (length config.dataset) script.lines
  pub eight : length duties ≡ 8
  pub lists : (t : ℕ) → t < 8 → (duty_at duties t).list ≡ items_by t script.lines
  pub ready : AreReady bank targets duties
  pub unseen : AreUnseen bank duties

-- the crew has run them; the session has lived through these steps, and was finished with what each thread left
pub record HasEnded (config : Config) (script : Script) (bank : List CellData) (targets : TargetsData) (duties : List Duty) (dones : List Done)
    (session : Session) (steps : List Step) (told after : Option LinkState) (closed : Closed) : Type 0 where
  pub script_is : IsScript config script
  pub duties_are : AreDutiesOf config script bank targets.cells duties
  pub done : AreDone bank targets.cells duties dones
  pub stands : Stands (plan_by config script) steps session
  pub bank_is : IsBankOf session bank
  pub targets_are : AreTargetsOf session targets
  pub finishes : Finishes bank targets.cells session dones told after closed
