use Rattle.std.proofs.Common.{◌+◌, List, sym, subst}
use Rattle.lane_groups.specs.declared.lane.Lane.{Lane}
use Rattle.lane_groups.specs.Making.{LanesTo}
use Rattle.lane_groups.proofs.NewLanes.{lanes-keyed, lanes-open}
use Rattle.lane_groups.proofs.making.add_open.Goals as goal

pub open_lane-requires-clause-unsecured : goal.open_lane-requires-clause-unsecured
open_lane-requires-clause-unsecured c = c.is_open.ensures.unsecured c.if-is_open.true

pub returns-in_ok-push : goal.returns-in_ok-push
returns-in_ok-push c =
    λ so_far.
    subst (λ (l : List Lane). LanesTo c.args.config.now c.args.turns (c.args.g + 1) l) (sym c.in_ok-push.ensures.items)
    (lanes-open c.args.config.now c.args.turns c.args.g c.args.lanes.now.items so_far c.requires.index c.in_ok-open_lane.field-0 c.in_ok-open_lane.ensures (c.is_open.ensures.unsecured c.if-is_open.true))

pub returns-else-is_open : goal.returns-else-is_open
returns-else-is_open c =
    λ so_far. lanes-keyed c.args.config.now c.args.turns c.args.g c.args.lanes.now.items so_far c.requires.index (c.is_open.ensures.keyed c.if-is_open.false)
