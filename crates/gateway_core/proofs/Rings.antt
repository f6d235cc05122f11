-- A ring renews the keys of a key group: where it leaves the gateway.
use Rattle.std.proofs.Common.{◌≡◌, sym, ap, subst, arith, ℕ, List}
use Rattle.std.specs.Prelude.{Vec}
use Rattle.std.specs.declared.alloc.Global.{Global}
use Rattle.group_keys.specs.declared.key_set.KeySet.{KeySet}
use Rattle.writer_group.specs.declared.group.Group.{Group}
use Rattle.session_model.specs.Steps.{Plan}
use Rattle.session_model.specs.Lives.{account_in, steps_in}
use Rattle.session_parts.specs.declared.round.Round.{Round}
use Rattle.session_parts.specs.Holding.{AreAllLogged, MayAllGoOn}
use Rattle.session_parts.specs.Rounds.{HoldRound, RoundRenews}
use Rattle.gateway_core.specs.declared.gateway.Gateway.{Gateway}
use Rattle.gateway_core.specs.Lived.{plan_again}
use Rattle.gateway_core.specs.Holding.{IsGateway, logged_of}
use Rattle.gateway_core.specs.Living.{LeadsRenewed}

pub renewed-gateway : (old : Gateway) (round : Round) → IsGateway old → HoldRound old.config.now round → round.publisher.groups ≡ old.round.publisher.groups → round.moment ≡ old.round.moment
    → IsGateway (record old { round = round })
renewed-gateway old round gateway holds groups moment = record {
  good = gateway.good;
  collected = gateway.collected;
  round = holds;
  goes_on = subst (λ (v : Vec Group Global). MayAllGoOn old.config.now old.config.now.dataset old.left.ticks v.items) (sym groups) gateway.goes_on;
  logs = subst (λ (v : Vec Group Global). AreAllLogged (logged_of old) v.items) (sym groups) gateway.logs;
  time = omega (arith, gateway.time, moment);
  calls = gateway.calls;
}

pub renewed-lives : (k : ℕ) (sets : List KeySet) (old : Gateway) (round : Round) → RoundRenews old.config.now k sets old.round round → LeadsRenewed k sets old (record old { round = round })
renewed-lives k sets old round renews second lived life stands = record {
  session = record {
    run = stands.session.run;
    steps_are = stands.session.steps_are;
    turns = stands.session.turns;
    parts = record {
      plan = stands.session.parts.plan;
      closed = stands.session.parts.closed;
      ticks = stands.session.parts.ticks;
      pumps = stands.session.parts.pumps;
      metas = stands.session.parts.metas;
      round = renews (plan_again second) (steps_in life) (account_in (plan_again second) life) (ap (λ (q : Plan). q.config) stands.session.parts.plan) stands.session.parts.round;
    };
  };
  steps = stands.steps;
  samples = stands.samples;
  kept = stands.kept;
  collects = stands.collects;
}
