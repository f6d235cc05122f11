-- Where a gateway stands after what it lived through. Lists of steps and of deeds have the latest first.
use Rattle.std.specs.Prelude.{◌≡◌, ℕ, ◌+◌, ◌<◌, ◌≤◌, List, ◌∷◌, length, reverse, Bool, Option, slice_index_or}
use Rattle.std.specs.List.{HoldsAt}
use Rattle.ua_base.specs.Journal.{LinkState}
use Rattle.ps_config.specs.declared.parts.Config.{Config}
use Rattle.session_model.specs.Counts.{ticks_in, pumps_in, is_closed}
use Rattle.session_model.specs.Steps.{Plan, Step}
use Rattle.session_model.specs.Sets.{metas_at}
use Rattle.session_model.specs.Turns.{TurnsHold}
use Rattle.session_model.specs.Sends.{IsRun, TellsRun}
use Rattle.session_model.specs.Keeping.{AreStepsOf}
use Rattle.session_model.specs.Lives.{account_of}
use Rattle.session_parts.specs.Rounds.{RoundStands}
use Rattle.session_parts.specs.Ticking as parts
use Rattle.gateway_core.specs.declared.collected.StoreVersion.{StoreVersion}
use Rattle.gateway_core.specs.declared.collected.Versions.{Versions}
use Rattle.gateway_core.specs.declared.gateway.Gateway.{Gateway}
use Rattle.gateway_core.specs.Lived.{GatewayStep, collects_in, first_kept, kept_on, plan_again, samples_after, session_steps, versions_kept}
use Rattle.gateway_core.specs.Holding.{logged_of, plan_of, sampled_by, sources_of, ticks_of}

-- ---- as a session

-- it stands where these steps leave a session, in which no field was appended
pub record StandsAsSession (p : Plan) (steps : List Step) (s : Gateway) : Type 0 where
  pub plan : plan_of s ≡ p
  pub run : IsRun p steps
  pub steps_are : AreStepsOf (ticks_of s) p steps
  pub turns : TurnsHold p steps
  pub closed : s.left.is_closed ≡ is_closed steps
  pub ticks : ticks_in steps + s.left.ticks ≤ s.left.turns
  pub pumps : pumps_in steps + s.left.pumps ≡ ticks_in steps
  pub metas : metas_at p.config steps ≡ p.config.dataset
  pub round : RoundStands p steps (account_of p steps) s.round

-- ---- what was collected

-- the versions, the last first
abbrev pub versions_in : Versions → List StoreVersion
versions_in versions = reverse versions.kept.items

-- with the version of a store, whatever versions came before it: so many are kept, the first ones
abbrev pub KeepsOn : ℕ → StoreVersion → Versions → Versions → Type 0
KeepsOn most version old new =
    (kept : List StoreVersion) → versions_in old ≡ first_kept most kept → versions_in new ≡ first_kept most (kept_on kept version)

-- for each data set so many of those of its source, the first ones
abbrev pub HaveKept : ℕ → List ℕ → List GatewayStep → List Versions → Type 0
HaveKept most sources lived versions =
    (set : ℕ) → set < length sources → HoldsAt (λ kept. versions_in kept ≡ first_kept most (versions_kept (slice_index_or sources set 0) lived)) versions set

-- ---- the gateway

-- it stands where this life leaves it: it is the session of its ticks and pumps, with what was collected as samples
pub record Stands (second : Config) (lived : List GatewayStep) (s : Gateway) : Type 0 where
  pub session : StandsAsSession (plan_again second) (session_steps (sources_of s) lived) s
  pub samples : sampled_by s ≡ samples_after (sources_of s) lived
  pub kept : HaveKept (logged_of s) (sources_of s) lived s.collected.versions.items
  pub collects : collects_in lived + s.left.collects ≤ s.left.turns

-- the steps of the session that its life is
abbrev pub steps_of : Gateway → List GatewayStep → List Step
steps_of s lived = session_steps (sources_of s) lived

-- where one step more leads, and what the link tells: it is then the journal, if it was before
pub record Leads (second : Config) (before : List GatewayStep) (step : GatewayStep) (told after : Option LinkState) (s : Gateway) : Type 0 where
  pub stands : Stands second (step ∷ before) s
  pub tells : TellsRun (plan_again second) (session_steps (sources_of s) before) told
      → TellsRun (plan_again second) (session_steps (sources_of s) (step ∷ before)) after

-- memory ran out at a send of the tick: of the gateway's session the first datagrams of the tick were sent, each once, in order, and no further one
abbrev pub HaltsTick : Config → List ℕ → List GatewayStep → ℕ → Bool → Option LinkState → Option LinkState → Type 0
HaltsTick second sources before ms closing told after =
    parts.HaltsTick (plan_again second) (session_steps sources before) ms closing (samples_after sources before) told after
