use Rattle.std.proofs.Common.{take}
use Rattle.ps_report.specs.Conditions.{HoldRows, readers_of}
use Rattle.cases_text.proofs.reports.closing.readers.Given as goal

-- one for each reader of the groups so far
abbrev pub invariant-loop-group : goal.invariant-loop-group
invariant-loop-group l = HoldRows l.sets (readers_of (take l.group-index l.groups)) l.ends.items
