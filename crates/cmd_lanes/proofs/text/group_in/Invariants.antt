use Rattle.std.proofs.Common.{◌≡◌, ℕ, ◌<◌, false, get_or}
use Rattle.lane_groups.specs.declared.lane.Lane.{Lane}
use Rattle.lane_groups.specs.Lanes.{has_group}
use Rattle.cmd_lanes.proofs.text.group_in.Given as goal

abbrev pub invariant-loop-lane : goal.invariant-loop-lane
invariant-loop-lane l = (k : ℕ) (none : Lane) → k < l.lane-index → has_group (get_or l.lanes k none) l.g ≡ false
