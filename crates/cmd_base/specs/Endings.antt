-- How a command ends where there is no report.
use Rattle.script_player.specs.declared.play.PlayEnd.{PlayEnd}
use Rattle.script_player.specs.declared.play.PlayEnd.TheVariants as ends
use Rattle.cmd_base.specs.declared.status.Status.{Status}
use Rattle.cmd_base.specs.declared.status.Status.TheVariants.{OutOfMemory, Unopened}

-- the status that says why a session has no report
abbrev pub status_of : PlayEnd → Status
status_of ends.Memory = OutOfMemory
status_of ends.Unopened = Unopened
