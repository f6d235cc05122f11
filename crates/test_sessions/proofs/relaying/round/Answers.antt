use Rattle.test_sessions.proofs.Renewed.{small-here}
use Rattle.test_sessions.proofs.relaying.round.Goals as goal

pub shows_gateway-requires-clause-gateway : goal.shows_gateway-requires-clause-gateway
shows_gateway-requires-clause-gateway g c = c.in_ok-tick.ensures.outlet.gateway_is

pub shows_gateway-requires-clause-small : goal.shows_gateway-requires-clause-small
shows_gateway-requires-clause-small g c = small-here c.tick.new.outlet c.in_ok-tick.ensures.outlet
