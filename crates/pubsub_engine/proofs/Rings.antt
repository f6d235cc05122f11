-- A ring renews the keys of a key group: where it leaves the session.
use Rattle.std.proofs.Common.{◌≡◌, sym, ap, subst, arith, ℕ, List}
use Rattle.std.specs.Prelude.{Vec}
use Rattle.std.specs.declared.alloc.Global.{Global}
use Rattle.group_keys.specs.declared.key_set.KeySet.{KeySet}
use Rattle.writer_group.specs.declared.group.Group.{Group}
use Rattle.session_model.specs.Steps.{Plan}
use Rattle.session_model.specs.Lives.{account_in, steps_in}
use Rattle.session_parts.specs.declared.round.Round.{Round}
use Rattle.session_parts.specs.Holding.{AreAllLogged, MayAllGoOn}
use Rattle.session_parts.specs.Rounds.{HoldRound, RoundRenews}
use Rattle.pubsub_engine.specs.declared.session.Session.{Session}
use Rattle.pubsub_engine.specs.Holding.{IsSession}
use Rattle.pubsub_engine.specs.Living.{LeadsRenewed}

pub renewed-session : (old : Session) (round : Round) → IsSession old → HoldRound old.config.now round → round.publisher.groups ≡ old.round.publisher.groups → round.moment ≡ old.round.moment
    → IsSession (record old { round = round })
renewed-session old round session holds groups moment = record {
  good = session.good;
  sets = session.sets;
  samples = session.samples;
  round = holds;
  goes_on = subst (λ (v : Vec Group Global). MayAllGoOn old.config.now old.sets.metas.items old.left.ticks v.items) (sym groups) session.goes_on;
  logged = subst (λ (v : Vec Group Global). AreAllLogged old.left.logged v.items) (sym groups) session.logged;
  stores = session.stores;
  time = omega (arith, session.time, moment);
  calls = session.calls;
}

pub renewed-lives : (k : ℕ) (sets : List KeySet) (old : Session) (round : Round) → RoundRenews old.config.now k sets old.round round → LeadsRenewed k sets old (record old { round = round })
renewed-lives k sets old round renews p life stands = record {
  run = stands.run;
  steps_are = stands.steps_are;
  turns = stands.turns;
  parts = record {
    plan = stands.parts.plan;
    closed = stands.parts.closed;
    ticks = stands.parts.ticks;
    pumps = stands.parts.pumps;
    metas = stands.parts.metas;
    stores_are = stands.parts.stores_are;
    round = renews p (steps_in life) (account_in p life) (ap (λ (q : Plan). q.config) stands.parts.plan) stands.parts.round;
  };
}
