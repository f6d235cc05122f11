use Rattle.session_parts.specs.Holding.{HoldSubscriber}
use Rattle.session_parts.proofs.Handing.{HandedTo}
use Rattle.session_parts.proofs.subscriber.Subscriber.hand_on.Given as goal

abbrev pub invariant-loop-r : goal.invariant-loop-r
invariant-loop-r l = record {
  holds : HoldSubscriber l.config l.self;
  handed : HandedTo l.config l.tree l.moment l.datagram l.r l.fn.self l.self;
}
