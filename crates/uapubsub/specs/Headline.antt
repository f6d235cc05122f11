-- THE HEADLINE, of what a command wrote.
use Rattle.std.specs.Prelude.{◌≡◌, ℕ, ◌<◌, Bool, true, false, List, length, map, Option, Some}
use Rattle.std.specs.List.{range_with_len}
use Rattle.ua_base.specs.Journal.{LinkState}
use Rattle.ua_base.specs.Output.{appended}
use Rattle.dataset_meta.specs.DataValues.{DataValue}
use Rattle.ps_config.specs.declared.parts.Config.{Config}
use Rattle.ps_report.specs.declared.closed.Closed.{Closed}
use Rattle.ps_report.specs.Reports.{report_text}
use Rattle.ps_script.specs.declared.script.Script.{Script}
use Rattle.report_laws.specs.Alike.{AreToldAlike}
use Rattle.report_laws.specs.Reported.{IsReported}
use Rattle.app_threads.specs.Marks.{authors}
use Rattle.session_model.specs.Closing.{IsClosedAfter}
use Rattle.session_model.specs.Sends.{TellsRun}
use Rattle.session_model.specs.Steps.{Step}
use Rattle.session_laws.specs.Sessions.{ClosesWith}
use Rattle.session_laws.specs.Telling.{HasRun, TellsHeadline}
use Rattle.script_player.specs.Plays.{IsPlayOf, plan_by, row_written, writers_in}
use Rattle.script_runner.specs.Legal.{row_made}
use Rattle.script_runner.specs.Runs.{IsRunOf}
use Rattle.cmd_base.specs.Outside.{Outside, Wire}
use Rattle.cmd_base.specs.Sessions.{Accepts}

-- the threads of a legal order of writes that makes each data set's single history, in that order; of a played script it is that of its lines
abbrev pub Threads : Type 0
Threads = ℕ → List ℕ

-- the rows of the versions of each data set's single history
abbrev pub Rows : Type 0
Rows = ℕ → ℕ → List DataValue

-- how a script was performed: its histories, the steps of its session, what the link tells, and the closed session
abbrev pub Performance : Type 1
Performance = Config → Script → Threads → Rows → List Step → Option LinkState → Closed → Type 0

-- where it is told what was written before, any session of the configuration with whose report the same would have been written is told as this one
abbrev pub TellsOne : Config → Closed → Option (List ℕ) → Option (List ℕ) → Type 0
TellsOne config closed old new = (before : List ℕ) (other : Closed) → old ≡ Some before → IsReported config other
    → new ≡ appended old (report_text config other) → AreToldAlike closed other

-- What was written is the report of a closed session of the accepted configuration and script; a link that tells a journal tells that of
-- its steps. Each data message of a writer stands for one whole version of its data set's single history, that of the script's writes, and
-- never for an older one than the message before. A matched reader whose read group takes nothing but what was sent holds what follows,
-- whatever datagrams were lost, repeated or reordered. Where it goes by numbers it holds exactly the version that its unbroken run of
-- messages names, or has said why it waits. Where it ignores numbers it holds the row of the last key frame that came since it was cut
-- last. The report tells the threads of a legal order of writes that makes each history, and the closing tick sampled each history's last
-- version. It may be told what was written before. Then any session of the configuration, with numbers of 64 bits, with whose report the
-- same would have been written is told as this one. fates: whether the script may give datagrams fates; Performed: how it was performed
pub record WritesHeadline (fates : Bool) (Performed : Performance) (script_name : List ℕ) (config_name : Option (List ℕ)) (old new : Outside) (after : Wire) : Type 0 where
  pub config : Config
  pub script : Script
  pub accepts : Accepts fates old.file script_name config_name config script
  pub threads : Threads
  pub rows : Rows
  pub steps : List Step
  pub closed : Closed
  pub performed : Performed config script threads rows steps after.told closed
  pub lived : HasRun (plan_by config script) steps rows
  pub tells : TellsRun (plan_by config script) steps after.told
  pub closed_after : IsClosedAfter (plan_by config script) steps closed
  pub reported : IsReported config closed
  pub histories : map (λ history. history.threads) closed.histories ≡ map threads (range_with_len 0 (length config.dataset))
  pub closes : (set : ℕ) → set < length config.dataset → ClosesWith steps set (length (threads set))
  pub headline : TellsHeadline (plan_by config script) steps rows closed
  pub written : new.written ≡ appended old.written (report_text config closed)
  pub alone : TellsOne config closed old.written new.written

-- the script was played in these steps: the histories are those of its writes in the order of the lines
pub record PlayedIn (config : Config) (script : Script) (threads : Threads) (rows : Rows) (steps : List Step) (told : Option LinkState) (closed : Closed) : Type 0 where
  pub play : IsPlayOf config script told closed
  pub steps_are : play.steps ≡ steps
  pub threads_are : threads ≡ writers_in script
  pub rows_are : rows ≡ row_written script

-- the script was run in these steps: the histories are legal, each thread has all of its writes there, in order
pub record RanIn (config : Config) (script : Script) (threads : Threads) (rows : Rows) (steps : List Step) (told : Option LinkState) (closed : Closed) : Type 0 where
  pub run : IsRunOf config script told closed
  pub steps_are : run.steps ≡ steps
  pub threads_are : threads ≡ (λ set. authors (run.logs set))
  pub rows_are : rows ≡ row_made script run.logs

abbrev pub WritesPlay : List ℕ → Option (List ℕ) → Outside → Outside → Wire → Type 0
WritesPlay script_name config_name old new after = WritesHeadline true PlayedIn script_name config_name old new after

abbrev pub WritesRun : List ℕ → Option (List ℕ) → Outside → Outside → Wire → Type 0
WritesRun script_name config_name old new after = WritesHeadline false RanIn script_name config_name old new after
