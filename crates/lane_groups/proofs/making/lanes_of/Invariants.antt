use Rattle.lane_groups.specs.Making.{LanesTo}
use Rattle.lane_groups.proofs.making.lanes_of.Given as goal

abbrev pub invariant-loop-g : goal.invariant-loop-g
invariant-loop-g l = LanesTo l.config l.turns l.g l.lanes.items
