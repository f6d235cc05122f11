use Rattle.std.proofs.Common.{below_more, arith}
use Rattle.group_keys.proofs.Told.{told-at}
use Rattle.group_keys.proofs.in_memory.tell_sets.Goals as goal

pub loop-i-preserved : goal.loop-i-preserved
loop-i-preserved c =
    below_more _ _ c.loop-i.invariant
    (told-at c.args.sets.now c.loop-i.i c.index-sets-i.result c.index-sets-i.is (omega arith) c.tell_set.ensures)

pub returns : goal.returns
returns c k d within = c.loop-i.invariant k (omega (arith, within)) d
