use Rattle.std.proofs.Common.{take}
use Rattle.std.specs.List.{All}
use Rattle.report_laws.specs.Numbers.{WatchHasNumbers}
use Rattle.report_laws.proofs.numbers.see_watches.Given as goal

abbrev pub invariant-loop-end : goal.invariant-loop-end
invariant-loop-end l = All WatchHasNumbers (take l.end-index l.watches)
