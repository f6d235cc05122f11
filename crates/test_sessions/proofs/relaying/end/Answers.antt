use Rattle.std.proofs.Common.{true, refl}
use Rattle.test_sessions.proofs.Renewed.{may-end, may-pump, small-ended}
use Rattle.test_sessions.proofs.relaying.end.Goals as goal

pub tick-requires-clause-may : goal.tick-requires-clause-may
tick-requires-clause-may g c = may-end c.args.outlet c.requires.outlet

pub pump-requires-clause-may : goal.pump-requires-clause-may
pump-requires-clause-may g c = may-pump true c.args.outlet.gateway c.tick.new.self c.tick.ensures.gateway c.tick.ensures.left

pub shows_gateway-requires-clause-small : goal.shows_gateway-requires-clause-small
shows_gateway-requires-clause-small g c =
    let p = c.pump.ensures in
    small-ended 0 true c.args.outlet c.tick.new.self c.pump.new.self (g.L.Link.told c.args.link.now) (g.L.Link.told c.tick.new.link) (g.L.Link.told c.pump.new.link)
    c.requires.outlet (c.in-Done.ensures.lives refl) (λ second lived life stands. let on = p.lives second lived life stands in (on.0, on.1))
