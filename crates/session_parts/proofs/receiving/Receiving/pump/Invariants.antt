use Rattle.ua_base.specs.Links.{KeepsLink}
use Rattle.session_parts.specs.Holding.{HasBuffers, HoldSubscriber}
use Rattle.session_parts.proofs.Entries.{SoFar}
use Rattle.session_parts.proofs.receiving.Receiving.pump.Given as goal

abbrev pub invariant-loop-taken : goal.invariant-loop-taken
invariant-loop-taken g l = record {
  holds : HoldSubscriber l.config l.subscriber;
  room : HasBuffers l.self;
  run : SoFar l.config l.tree l.moment l.taken l.fn.self l.self l.fn.subscriber l.subscriber (g.L.Link.told l.fn.link) (g.L.Link.told l.link);
  link : KeepsLink g.L.Link.told g.L.Link.patience g.L.Link.opened_with g.L.Link.faults g.L.Link.made g.L.Link.openings 0 l.fn.link l.link;
}
