use Rattle.std.proofs.Common.{sym, ◌∙◌}
use Rattle.group_keys.specs.Ring.{key_sets}
use Rattle.test_sessions.proofs.Renewed.{renewed-outlet, renewed-small, small-here}
use Rattle.test_sessions.proofs.relaying.renew.Goals as goal

pub renew-answer-requires-clause-there : goal.renew-answer-requires-clause-there
renew-answer-requires-clause-there g c = (small-here c.args.outlet.now c.requires).keyed

pub renew-answer-requires-clause-long : goal.renew-answer-requires-clause-long
renew-answer-requires-clause-long g c = c.in_ok-ring.ensures ∙ sym (small-here c.args.outlet.now c.requires).short

pub shows_gateway-requires-clause-small : goal.shows_gateway-requires-clause-small
shows_gateway-requires-clause-small g c =
    let e = c.renew-answer.ensures in
    renewed-small c.args.outlet.now 0 (key_sets c.in_ok-ring.ring) c.renew-answer.new.self c.requires e.lives

pub returns : goal.returns
returns g c =
    let e = c.renew-answer.ensures in
    renewed-outlet c.args.outlet.now 0 (key_sets c.in_ok-ring.ring) c.renew-answer.new.self c.requires e.gateway e.lives e.left
