use Rattle.std.proofs.Common.{◌≡◌}
use Rattle.session_parts.proofs.Each.{EachTo}
use Rattle.session_parts.proofs.Stopping.{StopsAt}
use Rattle.session_parts.proofs.subscriber.Subscriber.stop_below.Given as goal

abbrev pub invariant-loop-r : goal.invariant-loop-r
invariant-loop-r l = record {
  each : EachTo (StopsAt l.config l.component) l.r l.fn.self.groups.items l.self.groups.items;
  rest : l.self ≡ record l.fn.self { groups = l.self.groups };
}
