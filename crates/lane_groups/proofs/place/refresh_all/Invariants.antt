use Rattle.lane_groups.specs.Places.{IsRefreshed}
use Rattle.lane_groups.proofs.place.refresh_all.Given as goal

abbrev pub invariant-loop-w : goal.invariant-loop-w
invariant-loop-w l = IsRefreshed l.w l.fn.group l.group
