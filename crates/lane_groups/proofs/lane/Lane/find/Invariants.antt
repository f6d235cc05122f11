use Rattle.lane_groups.proofs.Finding.{IsLeft}
use Rattle.lane_groups.proofs.lane.Lane.find.Given as goal

abbrev pub invariant-loop-g : goal.invariant-loop-g
invariant-loop-g l = IsLeft l.self.places.items l.index l.g l.left
