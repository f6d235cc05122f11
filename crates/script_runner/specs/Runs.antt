-- What a run script makes: a legal history of each data set, a session that sampled versions of them, and what this is when it is closed.
use Rattle.std.specs.Prelude.{◌≡◌, ℕ, ◌<◌, List, map, length, reverse, true, Option}
use Rattle.std.specs.List.{range_with_len}
use Rattle.ua_base.specs.Journal.{LinkState}
use Rattle.app_threads.specs.Marks.{authors}
use Rattle.ps_config.specs.declared.parts.Config.{Config}
use Rattle.ps_report.specs.declared.closed.Closed.{Closed}
use Rattle.ps_script.specs.declared.script.Script.{Script}
use Rattle.session_model.specs.Steps.{Step}
use Rattle.session_model.specs.Sends.{IsRun, TellsRun}
use Rattle.session_model.specs.Keeping.{AreSteps}
use Rattle.session_model.specs.Closing.{IsClosedAfter}
use Rattle.session_laws.specs.Sessions.{SamplesRise}
use Rattle.session_laws.specs.Telling.{HasRun, TellsHeadline}
use Rattle.script_player.specs.Plays.{plan_by}
use Rattle.script_runner.specs.Legal.{IsLegalLog, row_made}
use Rattle.script_runner.specs.Running.{IsRunBy, IsTickedAt, Logs}
use Rattle.script_runner.specs.Looks.{AreLooks}

-- *Session run* of a script whose threads write beside the publisher. There are a legal history of each data set, and at each tick a
-- version of each that doesn't fall. The steps are those of the other lines in order, then the closing tick with the whole histories, and
-- its pump. The link's journal is that of these steps. The closed session is what they leave, tells each history's threads and the looks,
-- and tells the headline.
pub record IsRunOf (config : Config) (script : Script) (told : Option LinkState) (closed : Closed) : Type 0 where
  pub logs : Logs
  pub earlier : List Step
  pub steps : List Step
  pub legal : (set : ℕ) → set < length config.dataset → IsLegalLog script set (logs set)
  pub ran : IsRunBy (plan_by config script) logs (reverse script.lines) earlier
  pub ends : IsTickedAt (plan_by config script) logs (λ set. length (logs set)) 0 true earlier steps
  pub rise : SamplesRise (plan_by config script) steps
  pub steps_are : AreSteps (plan_by config script) steps
  pub run : IsRun (plan_by config script) steps
  pub lived : HasRun (plan_by config script) steps (row_made script logs)
  pub tells : TellsRun (plan_by config script) steps told
  pub closed_after : IsClosedAfter (plan_by config script) steps closed
  pub histories : map (λ history. history.threads) closed.histories ≡ map (λ set. authors (logs set)) (range_with_len 0 (length config.dataset))
  pub watches : AreLooks (plan_by config script) earlier script.lines closed.watches
  pub headline : TellsHeadline (plan_by config script) steps (row_made script logs) closed
