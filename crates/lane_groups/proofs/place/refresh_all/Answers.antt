use Rattle.std.proofs.Common.{◌≡◌, ℕ, arith, subst}
use Rattle.lane_groups.specs.Places.{IsRefreshed}
use Rattle.lane_groups.proofs.Refreshing.{refreshed-more, refreshed-none}
use Rattle.lane_groups.proofs.place.refresh_all.Goals as goal

pub loop-w-init : goal.loop-w-init
loop-w-init c = refreshed-none c.args.group.now

pub loop-w-preserved : goal.loop-w-preserved
loop-w-preserved c =
    let e = c.refresh.ensures in
    refreshed-more c.loop-w.w c.args.group.now c.loop-w.group c.refresh.new.self e.index e.made e.stands e.goes_on e.logs c.loop-w.invariant

pub refresh-requires : goal.refresh-requires
refresh-requires c =
    let made = c.requires.made in
    let still = c.loop-w.invariant.made made.0 made.1 made.2 in
    omega (arith, c.loop-w-test.true, made.3, still.writers)

pub returns : goal.returns
returns c =
    let all : c.loop-w.w ≡ c.args.writers = omega (arith, c.loop-w-test.false, c.loop-w.auto.w-end) in
    subst (λ (writers : ℕ). IsRefreshed writers c.args.group.now c.loop-w.group) all c.loop-w.invariant
