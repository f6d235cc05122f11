-- The lines so far have their appends.
use Rattle.std.proofs.Common.{take}
use Rattle.ps_script.specs.Sound.{IsScript}
use Rattle.script_player.specs.Sizes.{AppendsBy}
use Rattle.script_player.proofs.sizes.appends_of.Given as goal

abbrev pub invariant-loop-line : goal.invariant-loop-line
invariant-loop-line l = record { script : IsScript l.config l.script; appends : AppendsBy l.config l.script (take l.line-index l.script.lines) l.appends.items }
