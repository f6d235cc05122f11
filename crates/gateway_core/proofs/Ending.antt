-- A gateway as a session: whether a tick may come, and where a step leads.
use Rattle.std.proofs.Common.{◌≡◌, sym, ◌∙◌, subst, arith, ℕ, ◌+◌, ◌-◌, ◌<◌, ◌≤◌, Bool, true, false, List, ◌∷◌, Option}
use Rattle.ua_base.specs.Journal.{LinkState}
use Rattle.session_model.specs.Steps.{Plan, Step}
use Rattle.session_model.specs.Sets.{AreRowsOf}
use Rattle.session_model.specs.Counts.{is_closed, ticks_in}
use Rattle.session_model.specs.Keeping.{MayComeOf}
use Rattle.session_model.specs.Lives.{Account, Lived, Stepped, account_in}
use Rattle.session_model.specs.Sends.{TellsJournal}
use Rattle.gateway_core.specs.declared.gateway.Gateway.{Gateway}
use Rattle.gateway_core.specs.Holding.{MayTick, sampled_by, ticks_needed, ticks_of}
use Rattle.gateway_core.specs.Living.{LivesAsSession, StandsAs}

-- where one step more of a session leads, and what the link tells
pub record LeadsAsSession (p : Plan) (life : List Lived) (step : Step) (told after : Option LinkState) (s : Gateway) : Type 0 where
  pub stands : LivesAsSession p (Stepped step ∷ life) s
  pub tells : TellsJournal (account_in p life).journal told → TellsJournal (account_in p (Stepped step ∷ life)).journal after

-- the closing tick didn't come yet
pub not-closed : (p : Plan) (before : List Step) (a : Account) (ms : ℕ) (closing : Bool) (old : Gateway) → MayTick ms closing old → StandsAs p before a old → is_closed before ≡ false
not-closed p before a ms closing old may stands = sym stands.closed ∙ may.running

ticks-left : (closing : Bool) (before turns left : ℕ) → before + left ≤ turns → ticks_needed closing ≤ left → closing ≡ false → before < turns - 1
ticks-left true before turns left all needed is = absurd (let apart : true ≡ false → ⊥ = λ same. cc in apart is)
ticks-left false before turns left all needed is = omega (arith, all, needed)

pub may-come : (p : Plan) (before : List Step) (a : Account) (ms : ℕ) (closing : Bool) (old : Gateway) → MayTick ms closing old → StandsAs p before a old
    → MayComeOf (ticks_of old) p before ms closing (sampled_by old)
may-come p before a ms closing old may stands = record {
  rows = subst (λ (q : Plan). AreRowsOf q.full (sampled_by old)) stands.plan may.gateway.collected.rows;
  short = may.short;
  running = not-closed p before a ms closing old may stands;
  left = ticks-left closing (ticks_in before) old.left.turns old.left.ticks stands.ticks may.left;
  still = may.still;
}
