-- What a call makes of a gateway's life, by what it makes of the session.
use Rattle.std.proofs.Common.{◌≡◌, sym, ap, ◌∙◌, subst, arith, ℕ, ◌-◌, Bool, List, ◌∷◌, Option}
use Rattle.ua_base.specs.Journal.{Entry, LinkState}
use Rattle.ps_config.specs.declared.parts.Config.{Config}
use Rattle.target_cells.specs.declared.origin.Origin.{Origin}
use Rattle.version_cell.specs.Known.{Known}
use Rattle.session_model.specs.Steps.{Plan, Step, Pump as SessionPump, Tick as SessionTick}
use Rattle.session_model.specs.Keeping.{AreStepsOf}
use Rattle.session_model.specs.Lives.{Lived, steps_in}
use Rattle.gateway_core.specs.declared.collected.Collected.{Collected}
use Rattle.gateway_core.specs.declared.gateway.Gateway.{Gateway}
use Rattle.gateway_core.specs.declared.gateway.Left.{Left}
use Rattle.gateway_core.specs.Lived.{GatewayStep, Collect, Pump, Tick, collected, plan_again, samples_after, session_steps}
use Rattle.gateway_core.specs.Holding.{CountsCollect, CountsPump, CountsTick, KeepsCollected, logged_of, sampled_by, sources_of}
use Rattle.gateway_core.specs.Standing.{HaveKept}
use Rattle.gateway_core.specs.Living.{LeadsIn, LivesAsSession, StandsIn}
use Rattle.gateway_core.proofs.Ending.{LeadsAsSession}

-- ---- a tick, with what was collected as samples

pub lives-ticked : (second : Config) (lived : List GatewayStep) (life : List Lived) (ms : ℕ) (closing : Bool) (done : List Bool) (old s : Gateway) (told after : Option LinkState)
    → KeepsCollected old s → CountsTick closing old.left s.left → StandsIn second lived life old
    → LeadsAsSession (plan_again second) life (SessionTick ms closing (sampled_by old) done) told after s
    → LeadsIn second lived life (Tick ms closing done) (SessionTick ms closing (sampled_by old) done) told after s
lives-ticked second lived life ms closing done old s told after keeps counts stands leads = record {
  stands = record {
    session = leads.stands;
    steps = (λ i. SessionTick ms closing (stands.samples i) done ∷ stands.steps i) ∙ ap (λ (l : List ℕ). session_steps l (Tick ms closing done ∷ lived)) (sym same);
    samples = ap (λ (c : Collected). c.samples.items) keeps ∙ stands.samples ∙ ap (λ (l : List ℕ). samples_after l lived) (sym same);
    kept = subst (λ (c : Collected). HaveKept c.logged c.sources.items (Tick ms closing done ∷ lived) c.versions.items) (sym keeps) stands.kept;
    collects = omega (arith, stands.collects, counts.collects, counts.turns);
  };
  tells = leads.tells;
}
  where
    same : sources_of s ≡ sources_of old
    same = ap (λ (c : Collected). c.sources.items) keeps

-- ---- a pump

pub lives-pumped : (second : Config) (lived : List GatewayStep) (life : List Lived) (entries : List Entry) (old s : Gateway) (told after : Option LinkState) → KeepsCollected old s
    → CountsPump old.left s.left → StandsIn second lived life old → LeadsAsSession (plan_again second) life (SessionPump entries) told after s
    → LeadsIn second lived life (Pump entries) (SessionPump entries) told after s
lives-pumped second lived life entries old s told after keeps counts stands leads = record {
  stands = record {
    session = leads.stands;
    steps = ap (λ (l : List Step). SessionPump entries ∷ l) stands.steps ∙ ap (λ (l : List ℕ). session_steps l (Pump entries ∷ lived)) (sym same);
    samples = ap (λ (c : Collected). c.samples.items) keeps ∙ stands.samples ∙ ap (λ (l : List ℕ). samples_after l lived) (sym same);
    kept = subst (λ (c : Collected). HaveKept c.logged c.sources.items (Pump entries ∷ lived) c.versions.items) (sym keeps) stands.kept;
    collects = omega (arith, stands.collects, ap (λ (l : Left). l.collects) counts.rest, ap (λ (l : Left). l.turns) counts.rest);
  };
  tells = leads.tells;
}
  where
    same : sources_of s ≡ sources_of old
    same = ap (λ (c : Collected). c.sources.items) keeps

-- ---- a collect

-- nothing of the session changes
session-collected : (p : Plan) (life : List Lived) (old : Gateway) (left : Left) (c : Collected) → CountsCollect old.left left → LivesAsSession p life old
    → LivesAsSession p life (record old { left = left; collected = c })
session-collected p life old left c counts stands = record {
  run = stands.run;
  steps_are = subst (λ (n : ℕ). AreStepsOf (n - 1) p (steps_in life)) (sym (ap (λ (l : Left). l.turns) counts.rest)) stands.steps_are;
  turns = stands.turns;
  parts = record {
    plan = stands.parts.plan;
    closed = ap (λ (l : Left). l.is_closed) counts.rest ∙ stands.parts.closed;
    ticks = omega (arith, ap (λ (l : Left). l.ticks) counts.rest, ap (λ (l : Left). l.turns) counts.rest, stands.parts.ticks);
    pumps = omega (arith, ap (λ (l : Left). l.pumps) counts.rest, stands.parts.pumps);
    metas = stands.parts.metas;
    round = stands.parts.round;
  };
}

pub lives-collected : (second : Config) (lived : List GatewayStep) (life : List Lived) (passes : List Known) (origins : List Origin) (old : Gateway) (left : Left) (c : Collected)
    → CountsCollect old.left left → c.sources.items ≡ sources_of old → c.samples.items ≡ collected (sources_of old) passes → c.logged ≡ logged_of old
    → (HaveKept (logged_of old) (sources_of old) lived old.collected.versions.items → HaveKept (logged_of old) (sources_of old) (Collect passes origins ∷ lived) c.versions.items)
    → StandsIn second lived life old → StandsIn second (Collect passes origins ∷ lived) life (record old { left = left; collected = c })
lives-collected second lived life passes origins old left c counts same samples logged kept stands = record {
  session = session-collected (plan_again second) life old left c counts stands.session;
  steps = stands.steps ∙ ap (λ (l : List ℕ). session_steps l lived) (sym same);
  samples = samples ∙ ap (λ (l : List ℕ). collected l passes) (sym same);
  kept = subst (λ (n : ℕ). HaveKept n c.sources.items (Collect passes origins ∷ lived) c.versions.items) (sym logged)
      (subst (λ (l : List ℕ). HaveKept (logged_of old) l (Collect passes origins ∷ lived) c.versions.items) (sym same) (kept stands.kept));
  collects = omega (arith, stands.collects, counts.collects, ap (λ (l : Left). l.turns) counts.rest);
}
