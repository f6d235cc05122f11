use Rattle.std.proofs.Common.{◌≡◌}
use Rattle.session_parts.proofs.Each.{EachTo}
use Rattle.session_parts.proofs.Expiring.{ExpiresAt}
use Rattle.session_parts.proofs.subscriber.Subscriber.expire.Given as goal

abbrev pub invariant-loop-r : goal.invariant-loop-r
invariant-loop-r l = record {
  each : EachTo (ExpiresAt l.moment) l.r l.fn.self.groups.items l.self.groups.items;
  rest : l.self ≡ record l.fn.self { groups = l.self.groups };
}
