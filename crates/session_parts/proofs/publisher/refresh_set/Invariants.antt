use Rattle.session_parts.proofs.RefreshingSets.{RefreshesSet}
use Rattle.session_parts.proofs.publisher.refresh_set.Given as goal

abbrev pub invariant-loop-w : goal.invariant-loop-w
invariant-loop-w l = RefreshesSet l.part l.set l.w l.fn.group l.group
