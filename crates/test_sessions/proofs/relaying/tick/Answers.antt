use Rattle.std.proofs.Common.{false, refl, arith}
use Rattle.test_sessions.proofs.Renewed.{may-pump, may-tick, went-on}
use Rattle.test_sessions.proofs.relaying.tick.Goals as goal

pub tick-requires-clause-may : goal.tick-requires-clause-may
tick-requires-clause-may g c = may-tick c.args.outlet.now c.requires.outlet (omega (arith, c.if-outlet-eq0.false))

pub pump-requires-clause-may : goal.pump-requires-clause-may
pump-requires-clause-may g c = may-pump false c.args.outlet.now.gateway c.tick.new.self c.tick.ensures.gateway c.tick.ensures.left

pub returns-clause-outlet : goal.returns-clause-outlet
returns-clause-outlet g c =
    let t = c.tick.ensures in
    let p = c.pump.ensures in
    went-on 100 false c.args.outlet.now c.tick.new.self c.pump.new.self (g.L.Link.told c.args.link.now) (g.L.Link.told c.tick.new.link) (g.L.Link.told c.pump.new.link)
    c.requires.outlet (c.in-Done.ensures.lives refl) (λ second lived life stands. let on = p.lives second lived life stands in (on.0, on.1))
    (omega (arith, c.if-outlet-eq0.false)) t.left p.left p.gateway
