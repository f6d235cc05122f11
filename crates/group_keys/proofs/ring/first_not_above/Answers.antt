use Rattle.std.proofs.Common.{arith}
use Rattle.group_keys.proofs.Rising.{RisesBelow-more}
use Rattle.group_keys.proofs.ring.first_not_above.Goals as goal

pub loop-i-preserved : goal.loop-i-preserved
loop-i-preserved c =
    RisesBelow-more c.args.sets.now c.loop-i.i c.index-sets-i.result c.index-sets-i-in-loop-i.result c.loop-i.invariant
    (omega arith) (omega arith) c.index-sets-i.is c.index-sets-i-in-loop-i.is (omega arith) (omega arith)
