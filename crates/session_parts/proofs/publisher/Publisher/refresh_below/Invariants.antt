use Rattle.std.proofs.Common.{◌≡◌}
use Rattle.session_parts.proofs.Each.{EachTo}
use Rattle.session_parts.proofs.Refreshing.{RefreshesAt}
use Rattle.session_parts.proofs.publisher.Publisher.refresh_below.Given as goal

abbrev pub invariant-loop-g : goal.invariant-loop-g
invariant-loop-g l = record {
  each : EachTo (RefreshesAt l.config l.component) l.g l.fn.self.groups.items l.self.groups.items;
  rest : l.self ≡ record l.fn.self { groups = l.self.groups };
}
