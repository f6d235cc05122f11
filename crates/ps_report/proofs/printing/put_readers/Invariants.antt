use Rattle.std.proofs.Common.{◌≡◌, ◌++◌, take}
use Rattle.ps_report.specs.Reports.{reader_lines}
use Rattle.ps_report.proofs.printing.put_readers.Given as goal

abbrev pub invariant-loop-i : goal.invariant-loop-i
invariant-loop-i l = l.out.items ≡ l.fn.out.items ++ reader_lines l.sets (take l.i l.parts) (take l.i l.ends)
