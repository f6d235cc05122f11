-- How the command `play` ends.
use Rattle.std.specs.Prelude.{ℕ, true, List, Option}
use Rattle.script_player.specs.Plays.{IsPlayOf}
use Rattle.cmd_base.specs.declared.status.Status.{Status}
use Rattle.cmd_base.specs.Outside.{Outside, Wire}
use Rattle.cmd_base.specs.Sessions.{IsReportOf, SessionEnds, takes_all}

-- With a play of the script, whose fates the link obeys. old, new: what the folder and the output tell before and after; before, after: what the link tells
abbrev pub PlayEnds : Status → List ℕ → Option (List ℕ) → Outside → Outside → Wire → Wire → Type 0
PlayEnds status script_name config_name old new before after =
    SessionEnds (IsReportOf IsPlayOf) takes_all true status script_name config_name old new before after
