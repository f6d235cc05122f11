-- A gateway that no ring renews stands where its steps leave it.
use Rattle.std.proofs.Common.{◌≡◌, sym, ◌∙◌, subst, ℕ, Bool, List, ◌∷◌, map, Option}
use Rattle.ua_base.specs.Journal.{LinkState}
use Rattle.ps_config.specs.declared.parts.Config.{Config}
use Rattle.writer_group.specs.declared.sampled.Sampled.{Sampled}
use Rattle.session_model.specs.Steps.{Plan, Step}
use Rattle.session_model.specs.Keeping.{AreStepsOf}
use Rattle.session_model.specs.Lives.{Account, Stepped, account_of}
use Rattle.session_model.specs.Sends.{IsRun, TellsJournal, TellsRun}
use Rattle.session_model.specs.Turns.{TurnsHold}
use Rattle.session_parts.specs.Ticking.{HaltsTick, HaltsTickBehind, HaltsTickIn}
use Rattle.session_parts.proofs.Unrenewed.{of-plain, plain-account, plain-steps, run-back, run-in, to-plain, turns-back, turns-in}
use Rattle.gateway_core.specs.declared.gateway.Gateway.{Gateway}
use Rattle.gateway_core.specs.Lived.{GatewayStep, plan_again, session_steps}
use Rattle.gateway_core.specs.Holding.{sources_of, ticks_of}
use Rattle.gateway_core.specs.Standing.{Leads, Stands, StandsAsSession, steps_of}
use Rattle.gateway_core.specs.Living.{LeadsIn, LivesAsSession, StandsAs, StandsIn}

-- ---- as a session

as-stands : (p : Plan) (steps : List Step) (s : Gateway) → StandsAsSession p steps s → StandsAs p steps (account_of p steps) s
as-stands p steps s stands = record {
  plan = stands.plan;
  closed = stands.closed;
  ticks = stands.ticks;
  pumps = stands.pumps;
  metas = stands.metas;
  round = stands.round;
}

stands-of : (p : Plan) (steps : List Step) (s : Gateway) → IsRun p steps → AreStepsOf (ticks_of s) p steps → TurnsHold p steps → StandsAs p steps (account_of p steps) s → StandsAsSession p steps s
stands-of p steps s run steps_are turns stands = record {
  plan = stands.plan;
  run = run;
  steps_are = steps_are;
  turns = turns;
  closed = stands.closed;
  ticks = stands.ticks;
  pumps = stands.pumps;
  metas = stands.metas;
  round = stands.round;
}

session-in : (p : Plan) (steps : List Step) (s : Gateway) → StandsAsSession p steps s → LivesAsSession p (map Stepped steps) s
session-in p steps s stands = record {
  run = run-in p steps stands.run;
  steps_are = subst (AreStepsOf (ticks_of s) p) (sym (plain-steps steps)) stands.steps_are;
  turns = turns-in p steps stands.turns;
  parts = of-plain (λ l a. StandsAs p l a s) p steps (as-stands p steps s stands);
}

session-back : (p : Plan) (steps : List Step) (s : Gateway) → LivesAsSession p (map Stepped steps) s → StandsAsSession p steps s
session-back p steps s stands =
    stands-of p steps s (run-back p steps stands.run) (subst (AreStepsOf (ticks_of s) p) (plain-steps steps) stands.steps_are) (turns-back p steps stands.turns)
    (to-plain (λ l a. StandsAs p l a s) p steps stands.parts)

-- ---- the gateway

pub stands-in : (second : Config) (lived : List GatewayStep) (s : Gateway) → Stands second lived s → StandsIn second lived (map Stepped (steps_of s lived)) s
stands-in second lived s stands = record {
  session = session-in (plan_again second) (steps_of s lived) s stands.session;
  steps = plain-steps (steps_of s lived);
  samples = stands.samples;
  kept = stands.kept;
  collects = stands.collects;
}

-- these are the steps of its session
pub stands-back : (second : Config) (lived : List GatewayStep) (steps : List Step) (s : Gateway) → StandsIn second lived (map Stepped steps) s → Stands second lived s
stands-back second lived steps s stands = record {
  session = subst (λ (l : List Step). StandsAsSession (plan_again second) l s) (sym (plain-steps steps) ∙ stands.steps) (session-back (plan_again second) steps s stands.session);
  samples = stands.samples;
  kept = stands.kept;
  collects = stands.collects;
}

-- ---- a step more

pub leads-back : (second : Config) (lived : List GatewayStep) (steps : List Step) (step : GatewayStep) (of_session : Step) (told after : Option LinkState) (s : Gateway)
    → steps ≡ session_steps (sources_of s) lived → LeadsIn second lived (map Stepped steps) step of_session told after s → Leads second lived step told after s
leads-back second lived steps step of_session told after s same leads = record {
  stands = stands-back second (step ∷ lived) (of_session ∷ steps) s leads.stands;
  tells = λ run.
      subst (λ (l : List Step). TellsRun (plan_again second) l after) (sym (plain-steps (of_session ∷ steps)) ∙ leads.stands.steps)
      (subst (λ (a : Account). TellsJournal a.journal after) (plain-account (plan_again second) (of_session ∷ steps))
      (leads.tells (subst (λ (a : Account). TellsJournal a.journal told) (sym (plain-account (plan_again second) steps))
      (subst (λ (l : List Step). TellsRun (plan_again second) l told) (sym same) run))));
}

-- a tick that halts
pub halts-back : (p : Plan) (steps : List Step) (ms : ℕ) (closing : Bool) (sampled samples : List Sampled) (told after : Option LinkState) → sampled ≡ samples
    → HaltsTickIn p (map Stepped steps) ms closing sampled told after → HaltsTick p steps ms closing samples told after
halts-back p steps ms closing sampled samples told after same halts =
    to-plain (λ (l : List Step) (a : Account). HaltsTickBehind p l a ms closing samples told after) p steps
    (subst (λ (x : List Sampled). HaltsTickIn p (map Stepped steps) ms closing x told after) same halts)
