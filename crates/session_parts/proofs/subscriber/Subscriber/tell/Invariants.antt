use Rattle.session_parts.proofs.TellingReaders.{ToldTo}
use Rattle.session_parts.proofs.subscriber.Subscriber.tell.Given as goal

abbrev pub invariant-loop-r : goal.invariant-loop-r
invariant-loop-r l = ToldTo l.config l.self.groups.items l.r l.fn.tree l.tree
