-- A pump: where what it takes leaves the gateway, as a session.
use Rattle.std.proofs.Common.{◌≡◌, refl, sym, ap, ◌∙◌, subst, arith, ℕ, ◌-◌, ◌*◌, List, ◌∷◌, Option}
use Rattle.std.specs.Prelude.{count_by}
use Rattle.ua_base.specs.Journal.{Entry, LinkState}
use Rattle.session_model.specs.Steps.{Plan, Pump}
use Rattle.session_model.specs.Closing.{is_datagram}
use Rattle.session_model.specs.Counts.{most_ms}
use Rattle.session_model.specs.Keeping.{AreStepsOf}
use Rattle.session_model.specs.Lives.{Lived, account_in, steps_in}
use Rattle.session_parts.specs.declared.publisher.Publisher.{Publisher}
use Rattle.session_parts.specs.declared.round.Round.{Round}
use Rattle.session_parts.specs.Holding.{AreAllLogged, MayAllGoOn}
use Rattle.session_parts.specs.Rounds.{HoldRound, RoundPumped, RoundPumps}
use Rattle.gateway_core.specs.declared.gateway.Left.{Left}
use Rattle.gateway_core.specs.declared.gateway.Gateway.{Gateway}
use Rattle.gateway_core.specs.Holding.{CountsPump, IsGateway, logged_of, plan_of}
use Rattle.gateway_core.specs.Living.{LivesAsSession}
use Rattle.gateway_core.proofs.Ending.{LeadsAsSession}

-- what a pump does to the parts of a gateway
pub record DoesPump (old new : Gateway) (taken : ℕ) (told after : Option LinkState) : Type 0 where
  pub changed : new ≡ record old { left = new.left; round = new.round }
  pub left : CountsPump old.left new.left
  pub pumped : RoundPumps old.config.now taken old.round new.round told after

pub pumped-gateway : (old : Gateway) (left : Left) (round : Round) → IsGateway old → CountsPump old.left left → HoldRound old.config.now round
    → round ≡ record old.round { tree = round.tree; subscriber = round.subscriber; receiving = round.receiving } → IsGateway (record old { left = left; round = round })
pumped-gateway old left round gateway counts holds rest = record {
  good = gateway.good;
  collected = gateway.collected;
  round = holds;
  goes_on = subst (λ (n : ℕ). MayAllGoOn old.config.now old.config.now.dataset n round.publisher.groups.items) (sym ticks)
      (subst (λ (q : Publisher). MayAllGoOn old.config.now old.config.now.dataset old.left.ticks q.groups.items) (sym publisher) gateway.goes_on);
  logs = subst (λ (q : Publisher). AreAllLogged (logged_of old) q.groups.items) (sym publisher) gateway.logs;
  time = omega (arith, gateway.time, ap (λ (n : ℕ). n * most_ms) ticks, ap (λ (x : Round). x.moment) rest);
  calls = omega (arith, gateway.calls, ticks, counts.pumps);
}
  where
    ticks : left.ticks ≡ old.left.ticks
    ticks = ap (λ (l : Left). l.ticks) counts.rest

    publisher : round.publisher ≡ old.round.publisher
    publisher = ap (λ (x : Round). x.publisher) rest

-- where a pump leads
abbrev pub LeadsPumped : Plan → List Lived → ℕ → Option LinkState → Option LinkState → Gateway → Type 0
LeadsPumped p life taken told after s =
    (entries : List Entry) × LeadsAsSession p life (Pump entries) told after s × (taken ≡ count_by is_datagram entries)

pumped-lives : (life : List Lived) (old new : Gateway) (taken : ℕ) (told after : Option LinkState) → DoesPump old new taken told after → LivesAsSession (plan_of old) life old
    → LeadsPumped (plan_of old) life taken told after new
pumped-lives life old new taken told after does stands = (
  pumped.entries,
  record {
    stands = record {
      run = (pumped.run, stands.run);
      steps_are = subst (λ (n : ℕ). AreStepsOf (n - 1) (plan_of old) (Pump pumped.entries ∷ steps_in life)) (sym (ap (λ (l : Left). l.turns) does.left.rest))
          (omega (arith, stands.parts.pumps, does.left.pumps), stands.steps_are);
      turns = (tt, stands.turns);
      parts = record {
        plan = ap plan_of does.changed;
        closed = ap (λ (l : Left). l.is_closed) does.left.rest ∙ stands.parts.closed;
        ticks = omega (arith, ap (λ (l : Left). l.ticks) does.left.rest, ap (λ (l : Left). l.turns) does.left.rest, stands.parts.ticks);
        pumps = omega (arith, stands.parts.pumps, does.left.pumps);
        metas = stands.parts.metas;
        round = pumped.stands;
      };
    };
    tells = pumped.tells;
  },
  pumped.taken_are,
)
  where
    pumped : RoundPumped (plan_of old) (steps_in life) (account_in (plan_of old) life) taken new.round told after
    pumped = does.pumped (plan_of old) (steps_in life) (account_in (plan_of old) life) refl stands.parts.round

pub pumps-live : (p : Plan) (life : List Lived) (old new : Gateway) (taken : ℕ) (told after : Option LinkState) → DoesPump old new taken told after → LivesAsSession p life old
    → LeadsPumped p life taken told after new
pumps-live p life old new taken told after does stands =
    subst (λ (q : Plan). LivesAsSession q life old → LeadsPumped q life taken told after new) stands.parts.plan (pumped-lives life old new taken told after does) stands
