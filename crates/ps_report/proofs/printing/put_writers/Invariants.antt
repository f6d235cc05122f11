use Rattle.std.proofs.Common.{◌≡◌, ◌++◌, take}
use Rattle.ps_report.specs.Reports.{writer_lines}
use Rattle.ps_report.proofs.printing.put_writers.Given as goal

abbrev pub invariant-loop-i : goal.invariant-loop-i
invariant-loop-i l = l.out.items ≡ l.fn.out.items ++ writer_lines (take l.i l.parts) (take l.i l.ends)
