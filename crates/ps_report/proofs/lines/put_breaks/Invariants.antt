use Rattle.std.proofs.Common.{◌≡◌, ◌++◌, take}
use Rattle.ps_report.specs.Lines.{breaks_text}
use Rattle.ps_report.proofs.lines.put_breaks.Given as goal

abbrev pub invariant-loop-at : goal.invariant-loop-at
invariant-loop-at l = l.out.items ≡ l.fn.out.items ++ breaks_text (take l.at-index l.breaks)
