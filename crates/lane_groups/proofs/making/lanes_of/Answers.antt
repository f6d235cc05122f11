use Rattle.std.proofs.Common.{◌≡◌, ℕ, length, ap, subst, arith}
use Rattle.lane_groups.specs.Making.{LanesTo}
use Rattle.lane_groups.proofs.NewLanes.{all-lanes, lanes-none}
use Rattle.lane_groups.proofs.making.lanes_of.Goals as goal

pub loop-g-init : goal.loop-g-init
loop-g-init c = lanes-none c.args.config.now c.args.turns c.in_ok-lanes.lanes.items c.requires.good c.in_ok-lanes.ensures

pub loop-g-preserved : goal.loop-g-preserved
loop-g-preserved c = c.in_ok-add_open.ensures c.loop-g.invariant

pub returns : goal.returns
returns c =
    let all : c.loop-g.g ≡ length c.args.config.now.group = omega (arith, c.loop-g-test.false, c.loop-g.auto.g-end, ap length c.as_slice-g-end.ensures) in
    all-lanes c.args.config.now c.args.turns c.loop-g.lanes.items c.requires.good (subst (λ (n : ℕ). LanesTo c.args.config.now c.args.turns n c.loop-g.lanes.items) all c.loop-g.invariant)
