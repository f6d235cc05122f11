use Rattle.std.proofs.Common.{take}
use Rattle.std.specs.List.{All}
use Rattle.report_laws.proofs.Entries.{BreakHasNumbers}
use Rattle.report_laws.proofs.numbers.see_breaks.Given as goal

abbrev pub invariant-loop-at : goal.invariant-loop-at
invariant-loop-at l = All BreakHasNumbers (take l.at-index l.breaks)
