use Rattle.std.proofs.Common.{◌<◌, ◌≤◌, length, sym, subst, arith}
use Rattle.std.proofs.lemmas.List.Elements.{All-set}
use Rattle.device.specs.Raising.{IsRefreshedBy}
use Rattle.device.specs.Sides.{IsSide}
use Rattle.device.specs.declared.side.Side.{Side}
use Rattle.device.proofs.Firsts.{first-all, first-more, first-none}
use Rattle.device.proofs.sides.refresh_raised.Goals as goal

pub loop-g-init : goal.loop-g-init
loop-g-init c = record {
  sides = c.requires;
  each = first-none (IsRefreshedBy c.args.config.now c.args.raised.now) c.args.sides.now;
}

pub loop-g-preserved : goal.loop-g-preserved
loop-g-preserved c =
    let config = c.args.config.now in
    let raised = c.args.raised.now in
    let old = c.args.sides.now in
    let mid = c.loop-g.sides in
    let low : c.loop-g.g < length old = omega (arith, c.loop-g-test.true) in
    record {
      sides = All-set (IsSide config) mid c.loop-g.g c.refresh_if.new.side c.refresh_if.ensures.side c.loop-g.invariant.sides;
      each = first-more (IsRefreshedBy config raised) c.loop-g.g old mid c.index-sides-g.result c.refresh_if.new.side low c.index-sides-g.is
          (subst (λ (was : Side). IsRefreshedBy config raised was c.refresh_if.new.side) (sym c.index-sides-g.is) c.refresh_if.ensures.refreshed) c.loop-g.invariant.each;
    }

pub returns-clause-refreshed : goal.returns-clause-refreshed
returns-clause-refreshed c =
    let old = c.args.sides.now in
    let all : length old ≤ c.loop-g.g = omega (arith, c.loop-g-test.false) in
    first-all (IsRefreshedBy c.args.config.now c.args.raised.now) c.loop-g.g old c.loop-g.sides all c.loop-g.invariant.each
