use Rattle.std.proofs.Common.{[], ap, arith}
use Rattle.gateway_core.specs.declared.gateway.Left.{Left}
use Rattle.test_sessions.proofs.relaying.outlet_of.Goals as goal

pub open-requires-clause-sources : goal.open-requires-clause-sources
open-requires-clause-sources c = c.in_ok-expect_sourced.ensures

pub returns : goal.returns
returns c =
    let gateway = c.in_ok-gateway.gateway in
    let e = c.in_ok-gateway.ensures in
    let ticks = ap (λ (l : Left). l.ticks) e.left in
    record {
      gateway_is = e.gateway;
      small = c.in_ok-expect_small.ensures;
      lived = [];
      life = [];
      stands = (c.a_gateway_that_is_not_renewed_stands_behind_its_steps.ensures c.args.second.now [] gateway).0 e.stands;
      running = ap (λ (l : Left). l.is_closed) e.left;
      left = omega (arith, ticks);
    }
