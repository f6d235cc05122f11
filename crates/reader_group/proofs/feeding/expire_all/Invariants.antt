use Rattle.reader_group.proofs.Changing.{ExpiredBelow}
use Rattle.reader_group.proofs.feeding.expire_all.Given as goal

abbrev pub invariant-loop-index : goal.invariant-loop-index
invariant-loop-index l = ExpiredBelow l.now l.fn.members l.index l.members
