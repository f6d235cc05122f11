use Rattle.std.proofs.Common.{◌≡◌}
use Rattle.session_parts.proofs.Each.{EachTo}
use Rattle.session_parts.proofs.RefreshingSets.{RefreshesSetAt}
use Rattle.session_parts.proofs.publisher.Publisher.refresh_set.Given as goal

abbrev pub invariant-loop-g : goal.invariant-loop-g
invariant-loop-g l = record {
  each : EachTo (RefreshesSetAt l.config l.set) l.g l.fn.self.groups.items l.self.groups.items;
  rest : l.self ≡ record l.fn.self { groups = l.self.groups };
}
