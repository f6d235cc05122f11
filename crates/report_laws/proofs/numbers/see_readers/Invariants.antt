use Rattle.std.proofs.Common.{take}
use Rattle.std.specs.List.{All}
use Rattle.report_laws.specs.Numbers.{ReaderHasNumbers}
use Rattle.report_laws.proofs.numbers.see_readers.Given as goal

abbrev pub invariant-loop-end : goal.invariant-loop-end
invariant-loop-end l = All ReaderHasNumbers (take l.end-index l.readers)
