use Rattle.std.specs.List.{range_with_len}
use Rattle.session_parts.proofs.Stopping.{Stops}
use Rattle.session_parts.proofs.subscriber.stop_below.Given as goal

abbrev pub invariant-loop-i : goal.invariant-loop-i
invariant-loop-i l = Stops l.r l.component (range_with_len 0 l.i) l.fn.group l.group
