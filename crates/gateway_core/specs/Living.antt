-- Where a gateway stands in a life in which rings renew its keys, the latest first: as after ticks and pumps alone, by what became of the session that it is.
use Rattle.std.specs.Prelude.{◌≡◌, ℕ, ◌+◌, ◌≤◌, List, ◌∷◌, Option}
use Rattle.group_keys.specs.declared.key_set.KeySet.{KeySet}
use Rattle.ua_base.specs.Journal.{LinkState}
use Rattle.pubsub_model.specs.Cadence.{WriterDeed}
use Rattle.ps_config.specs.declared.parts.Config.{Config}
use Rattle.writer_group.specs.Turns.{writer_past}
use Rattle.session_model.specs.Counts.{ticks_in, pumps_in, is_closed}
use Rattle.session_model.specs.Steps.{Plan, Step}
use Rattle.session_model.specs.Sets.{metas_at}
use Rattle.session_model.specs.Deeds.{group_past}
use Rattle.session_model.specs.Sends.{TellsJournal}
use Rattle.session_model.specs.Keeping.{AreStepsOf}
use Rattle.session_model.specs.Lives.{Account, IsRunIn, Lived, Renewed, Stepped, TurnsHoldIn, account_in, steps_in}
use Rattle.session_parts.specs.Rounds.{RoundStands}
use Rattle.gateway_core.specs.declared.gateway.Gateway.{Gateway}
use Rattle.gateway_core.specs.Lived.{GatewayStep, collects_in, plan_again, samples_after, session_steps}
use Rattle.gateway_core.specs.Holding.{logged_of, plan_of, sampled_by, sources_of, ticks_of}
use Rattle.gateway_core.specs.Standing.{HaveKept}

-- ---- as a session

-- its parts are as these steps, of which this became, leave those of a session in which no field was appended
pub record StandsAs (p : Plan) (steps : List Step) (a : Account) (s : Gateway) : Type 0 where
  pub plan : plan_of s ≡ p
  pub closed : s.left.is_closed ≡ is_closed steps
  pub ticks : ticks_in steps + s.left.ticks ≤ s.left.turns
  pub pumps : pumps_in steps + s.left.pumps ≡ ticks_in steps
  pub metas : metas_at p.config steps ≡ p.config.dataset
  pub round : RoundStands p steps a s.round

-- it stands where this life leaves a session
pub record LivesAsSession (p : Plan) (life : List Lived) (s : Gateway) : Type 0 where
  pub run : IsRunIn p life
  pub steps_are : AreStepsOf (ticks_of s) p (steps_in life)
  pub turns : TurnsHoldIn p life
  pub parts : StandsAs p (steps_in life) (account_in p life) s

-- ---- the gateway

-- it stands where these steps of it leave it, where this is the life of its session: their ticks and pumps, with what was collected as samples, and rings between
pub record StandsIn (second : Config) (lived : List GatewayStep) (life : List Lived) (s : Gateway) : Type 0 where
  pub session : LivesAsSession (plan_again second) life s
  pub steps : steps_in life ≡ session_steps (sources_of s) lived
  pub samples : sampled_by s ≡ samples_after (sources_of s) lived
  pub kept : HaveKept (logged_of s) (sources_of s) lived s.collected.versions.items
  pub collects : collects_in lived + s.left.collects ≤ s.left.turns

-- where one step more of it, which is this one of its session, leads, and what the link tells: it is then the journal, if it was before
pub record LeadsIn (second : Config) (lived : List GatewayStep) (life : List Lived) (step : GatewayStep) (of_session : Step) (told after : Option LinkState) (s : Gateway) : Type 0 where
  pub stands : StandsIn second (step ∷ lived) (Stepped of_session ∷ life) s
  pub tells : TellsJournal (account_in (plan_again second) life).journal told
      → TellsJournal (account_in (plan_again second) (Stepped of_session ∷ life)).journal after

-- wherever a life left it, it stands where a ring with these sets for the key group leads
abbrev pub LeadsRenewed : ℕ → List KeySet → Gateway → Gateway → Type 0
LeadsRenewed k sets old new =
    (second : Config) (lived : List GatewayStep) (life : List Lived) → StandsIn second lived life old → StandsIn second lived (Renewed k sets ∷ life) new

-- what a writer of the session did in this life
abbrev pub writer_deeds_in : Config → List Lived → ℕ → ℕ → List WriterDeed
writer_deeds_in second life g w = writer_past w (group_past second g (account_in (plan_again second) life).deeds)
