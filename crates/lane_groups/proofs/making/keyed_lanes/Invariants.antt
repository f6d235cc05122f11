use Rattle.session_parts.proofs.MadeTo.{MadeTo}
use Rattle.lane_groups.specs.Making.{IsKeyedLane}
use Rattle.lane_groups.proofs.making.keyed_lanes.Given as goal

abbrev pub invariant-loop-k : goal.invariant-loop-k
invariant-loop-k l = MadeTo (IsKeyedLane l.config l.turns) l.k l.lanes.items
