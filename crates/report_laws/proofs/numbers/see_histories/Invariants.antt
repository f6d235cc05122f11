use Rattle.std.proofs.Common.{take}
use Rattle.std.specs.List.{All}
use Rattle.report_laws.specs.Numbers.{HistoryHasNumbers}
use Rattle.report_laws.proofs.numbers.see_histories.Given as goal

abbrev pub invariant-loop-history : goal.invariant-loop-history
invariant-loop-history l = All HistoryHasNumbers (take l.history-index l.histories)
