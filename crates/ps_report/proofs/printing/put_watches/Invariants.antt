use Rattle.std.proofs.Common.{◌≡◌, ◌++◌, take}
use Rattle.ps_report.specs.Reports.{watch_lines}
use Rattle.ps_report.proofs.printing.put_watches.Given as goal

abbrev pub invariant-loop-end : goal.invariant-loop-end
invariant-loop-end l = l.out.items ≡ l.fn.out.items ++ watch_lines l.config (take l.end-index l.watches)
