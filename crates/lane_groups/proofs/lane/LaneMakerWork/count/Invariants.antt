use Rattle.lane_groups.proofs.Finding.{IsCounted}
use Rattle.lane_groups.proofs.lane.LaneMakerWork.count.Given as goal

abbrev pub invariant-loop-g : goal.invariant-loop-g
invariant-loop-g l = IsCounted l.self.places.items l.g l.count
