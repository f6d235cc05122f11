use Rattle.std.proofs.Common.{◌≡◌, ◌++◌, take}
use Rattle.ps_report.specs.Reports.{history_lines}
use Rattle.ps_report.proofs.printing.put_histories.Given as goal

abbrev pub invariant-loop-i : goal.invariant-loop-i
invariant-loop-i l = l.out.items ≡ l.fn.out.items ++ history_lines (take l.i l.sets) (take l.i l.histories)
