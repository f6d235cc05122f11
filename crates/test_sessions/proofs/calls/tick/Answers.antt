use Rattle.std.proofs.Common.{arith}
use Rattle.test_sessions.proofs.Going.{may-tick, ticked}
use Rattle.test_sessions.proofs.calls.tick.Goals as goal

pub pass-requires-clause-may : goal.pass-requires-clause-may
pass-requires-clause-may g c = may-tick c.args.device.now c.requires.device (omega (arith, c.if-device-eq0.false))

pub returns-clause-device : goal.returns-clause-device
returns-clause-device g c =
    let e = c.in_ok-pass.ensures in
    ticked c.args.device.now c.pass.new.session (g.L.Link.told c.args.link.now) (g.L.Link.told c.pass.new.link) c.requires.device
    (omega (arith, c.if-device-eq0.false)) e.session e.bank e.targets e.passes
