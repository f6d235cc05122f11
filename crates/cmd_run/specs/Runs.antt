-- How the command `run` ends.
use Rattle.std.specs.Prelude.{ℕ, false, List, Option}
use Rattle.script_runner.specs.Runs.{IsRunOf}
use Rattle.cmd_base.specs.declared.status.Status.{Status}
use Rattle.cmd_base.specs.Outside.{Outside, Wire}
use Rattle.cmd_base.specs.Sessions.{IsReportOf, SessionEnds, takes_all}

-- With a run of the script, which may give no fates. There are a legal history of each data set and versions of it that the ticks sampled.
-- old, new: what the folder and the output tell before and after; before, after: what the link tells
abbrev pub RunEnds : Status → List ℕ → Option (List ℕ) → Outside → Outside → Wire → Wire → Type 0
RunEnds status script_name config_name old new before after =
    SessionEnds (IsReportOf IsRunOf) takes_all false status script_name config_name old new before after
