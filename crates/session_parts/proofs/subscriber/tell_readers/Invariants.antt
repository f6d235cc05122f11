use Rattle.session_parts.specs.Pumping.{TellsGroup}
use Rattle.session_parts.proofs.subscriber.tell_readers.Given as goal

abbrev pub invariant-loop-i : goal.invariant-loop-i
invariant-loop-i l = TellsGroup l.group l.read_group l.i l.fn.tree l.tree
