use Rattle.std.proofs.Common.{refl, sym}
use Rattle.gateway_core.specs.declared.gateway.Gateway.{Gateway}
use Rattle.gateway_core.specs.Holding.{opening_left}
use Rattle.gateway_core.proofs.Fresh.{IsFresh, fresh-collected, fresh-gateway, fresh-stands}
use Rattle.gateway_core.proofs.gateway.Gateway.open.Goals as goal

-- the gateway that is opened
abbrev opened : goal.In_ok-round → Gateway
opened c = record { config = c.args.second; left = opening_left c.args.turns; collected = c.in_ok-collected.collected; round = c.in_ok-round.round }

fresh : (c : goal.In_ok-round) → IsFresh c.args.turns c.args.logged (opened c)
fresh c =
    let config = c.args.second.now in
    let sources = c.in_ok-sources.ensures.sources in
    let made = c.in_ok-collected.ensures in
    let round = c.in_ok-round.ensures in
    record {
      good = c.requires.second;
      few = c.requires.turns;
      left = refl;
      collected = fresh-collected config c.args.logged c.in_ok-sources.sources.items c.in_ok-collected.collected made.sources sources.count made.samples
          (made.rows config.dataset (sym sources.count) c.requires.second.sound.metas) made.count made.kept made.room made.logged;
      holds = round.holds;
      unstepped = round.stands;
      goes_on = round.goes_on;
      logs = round.logged;
    }

pub returns-clause-gateway : goal.returns-clause-gateway
returns-clause-gateway c = fresh-gateway c.args.turns c.args.logged (opened c) (fresh c)

pub returns-clause-logged : goal.returns-clause-logged
returns-clause-logged c = (fresh c).collected.logged_is

pub returns-clause-stands : goal.returns-clause-stands
returns-clause-stands c = fresh-stands c.args.turns c.args.logged (opened c) (fresh c)
