use Rattle.std.proofs.Common.{◌≡◌, ℕ, length}
use Rattle.std.specs.Prelude.{Option}
use Rattle.session_parts.proofs.Each.{EachTo}
use Rattle.writer_group.specs.Parts.{group_at}
use Rattle.lane_groups.specs.declared.place.Place.{Place}
use Rattle.lane_groups.specs.Places.{IsRefreshedIf}
use Rattle.lane_groups.proofs.lane.Lane.refresh.Given as goal

abbrev pub invariant-loop-g : goal.invariant-loop-g
invariant-loop-g l = record {
  each : EachTo (λ (g : ℕ) (old new : Option Place). IsRefreshedIf (length (group_at l.config g).writer) old new) l.g l.fn.self.places.items l.self.places.items;
  rest : l.self ≡ record l.fn.self { places = l.self.places };
}
