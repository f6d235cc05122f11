use Rattle.std.proofs.Common.{List, ◌+◌, sym, subst}
use Rattle.session_parts.proofs.MadeTo.{MadeTo, made-more, made-none}
use Rattle.lane_groups.specs.declared.lane.Lane.{Lane}
use Rattle.lane_groups.specs.Making.{IsKeyedLane}
use Rattle.lane_groups.proofs.making.keyed_lanes.Goals as goal

pub loop-k-init : goal.loop-k-init
loop-k-init c =
    subst (λ (l : List Lane). MadeTo (IsKeyedLane c.args.config.now c.args.turns) 0 l) (sym c.new-lanes.ensures.items) (made-none (IsKeyedLane c.args.config.now c.args.turns))

pub loop-k-preserved : goal.loop-k-preserved
loop-k-preserved c =
    subst (λ (l : List Lane). MadeTo (IsKeyedLane c.args.config.now c.args.turns) (c.loop-k.k + 1) l) (sym c.in_ok-push.ensures.items)
    (made-more (IsKeyedLane c.args.config.now c.args.turns) c.loop-k.k c.loop-k.lanes.items c.in_ok-keyed_lane.field-0 c.loop-k.invariant c.in_ok-keyed_lane.ensures)
