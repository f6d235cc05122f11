use Rattle.group_keys.proofs.Rising.{RisesBelow}
use Rattle.group_keys.proofs.ring.first_not_above.Given as goal

abbrev pub invariant-loop-i : goal.invariant-loop-i
invariant-loop-i l = RisesBelow l.sets l.i
