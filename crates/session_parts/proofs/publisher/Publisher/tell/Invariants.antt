use Rattle.session_parts.proofs.Telling.{TellsTo}
use Rattle.session_parts.proofs.publisher.Publisher.tell.Given as goal

abbrev pub invariant-loop-g : goal.invariant-loop-g
invariant-loop-g l = TellsTo l.config l.self l.g l.fn.tree l.tree
