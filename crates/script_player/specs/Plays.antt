-- What a played script makes: its session, and what this is when it is closed.
use Rattle.std.specs.Prelude.{◌≡◌, ℕ, ◌==◌, List, map, length, reverse, true, Option}
use Rattle.std.specs.List.{filter, flat_map, range_with_len}
use Rattle.dataset_meta.specs.DataValues.{DataValue}
use Rattle.ua_base.specs.Journal.{LinkState}
use Rattle.ua_base.specs.Links.{Opening}
use Rattle.pubsub_model.specs.History.{row_of}
use Rattle.version_cell.specs.Histories.{history_of}
use Rattle.ps_config.specs.declared.parts.Config.{Config}
use Rattle.ps_report.specs.declared.closed.Closed.{Closed}
use Rattle.ps_report.specs.declared.closed.WatchEnd.{WatchEnd}
use Rattle.ps_script.specs.declared.script.Script.{Script}
use Rattle.ps_script.specs.Sessions.{fates_of}
use Rattle.session_model.specs.Steps.{Plan, Step}
use Rattle.session_model.specs.Sets.{meta_in}
use Rattle.session_model.specs.Sends.{IsRun, TellsRun}
use Rattle.session_model.specs.Keeping.{AreSteps}
use Rattle.session_model.specs.Closing.{IsClosedAfter}
use Rattle.session_laws.specs.Telling.{HasRun, TellsHeadline}
use Rattle.script_player.specs.Playing.{IsPlayed, IsTickedBy, log_after}

abbrev pub plan_by : Config → Script → Plan
plan_by config script = record { config = config; full = script.metas }

-- the configuration's port, and the fates of the script
abbrev pub opening_of : Config → Script → Opening
opening_of config script = record { port = config.publisher.port; fates = fates_of script.lines }

-- the row of each version of a data set's history, which is that of the writes in the order of the lines; version 0 is the opening row
abbrev pub row_written : Script → ℕ → ℕ → List DataValue
row_written script set version =
    let meta = meta_in script.metas set in
    row_of meta.fields (history_of meta.fields (log_after meta set (reverse script.lines))) version

-- the threads of the writes of a data set, in the order of the lines
abbrev pub writers_in : Script → ℕ → List ℕ
writers_in script set = map (λ write. write.author) (log_after (meta_in script.metas set) set (reverse script.lines))

-- the looks in the order of threads, and of the lines within a thread
abbrev pub by_threads : List WatchEnd → List WatchEnd
by_threads looks = flat_map (λ thread. filter (λ look. look.thread == thread) looks) (range_with_len 0 8)

-- *Session run* of the script: its lines in order, each tick with the exact sample of the writes before it and with a pump, then the closing tick with its
-- pump; the link's journal is that of these steps. The closed session is what they leave, tells each data set's history, and tells the headline.
pub record IsPlayOf (config : Config) (script : Script) (told : Option LinkState) (closed : Closed) : Type 0 where
  pub earlier : List Step
  pub steps : List Step
  pub looks : List WatchEnd
  pub played : IsPlayed (plan_by config script) (reverse script.lines) earlier looks
  pub ends : IsTickedBy (plan_by config script) (reverse script.lines) 0 true earlier steps
  pub steps_are : AreSteps (plan_by config script) steps
  pub run : IsRun (plan_by config script) steps
  pub lived : HasRun (plan_by config script) steps (row_written script)
  pub tells : TellsRun (plan_by config script) steps told
  pub closed_after : IsClosedAfter (plan_by config script) steps closed
  pub histories : map (λ history. history.threads) closed.histories ≡ map (writers_in script) (range_with_len 0 (length config.dataset))
  pub watches : closed.watches ≡ by_threads looks
  pub headline : TellsHeadline (plan_by config script) steps (row_written script) closed
