use Rattle.std.proofs.Common.{take}
use Rattle.std.specs.List.{All}
use Rattle.report_laws.specs.Numbers.{WriterHasNumbers}
use Rattle.report_laws.proofs.numbers.see_writers.Given as goal

abbrev pub invariant-loop-end : goal.invariant-loop-end
invariant-loop-end l = All WriterHasNumbers (take l.end-index l.writers)
