use Rattle.std.proofs.Common.{◌≡◌, ◌++◌, drop}
use Rattle.ps_script.specs.Sessions.{fates_of}
use Rattle.ps_script.proofs.session.fates_of.Given as goal

-- the fates so far, and those of the lines that are left
abbrev pub invariant-loop-line : goal.invariant-loop-line
invariant-loop-line l = l.fates.items ++ fates_of (drop l.line-index l.lines) ≡ fates_of l.lines
