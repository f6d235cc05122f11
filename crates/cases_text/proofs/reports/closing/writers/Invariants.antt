use Rattle.std.proofs.Common.{◌≡◌, length, take}
use Rattle.ps_report.specs.Conditions.{writers_of}
use Rattle.cases_text.proofs.reports.closing.writers.Given as goal

-- one for each writer of the groups so far
abbrev pub invariant-loop-group : goal.invariant-loop-group
invariant-loop-group l = length l.ends.items ≡ length (writers_of (take l.group-index l.groups))
