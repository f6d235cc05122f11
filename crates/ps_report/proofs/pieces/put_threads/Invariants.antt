use Rattle.std.proofs.Common.{◌≡◌, ◌++◌, take}
use Rattle.ps_report.specs.Lines.{numbers_text}
use Rattle.ps_report.proofs.pieces.put_threads.Given as goal

abbrev pub invariant-loop-thread : goal.invariant-loop-thread
invariant-loop-thread l = l.out.items ≡ l.fn.out.items ++ numbers_text (take l.thread-index l.threads)
