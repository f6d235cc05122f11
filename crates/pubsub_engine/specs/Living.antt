-- Where a session stands in a life in which rings renew its keys, the latest first: as after steps alone, by what became of it.
use Rattle.std.specs.Prelude.{◌≡◌, ℕ, ◌+◌, ◌≤◌, List, ◌∷◌, Option}
use Rattle.group_keys.specs.declared.key_set.KeySet.{KeySet}
use Rattle.ua_base.specs.Journal.{LinkState}
use Rattle.session_model.specs.Counts.{ticks_in, pumps_in, is_closed}
use Rattle.session_model.specs.Steps.{Plan, Step}
use Rattle.session_model.specs.Sets.{metas_at}
use Rattle.session_model.specs.Sends.{TellsJournal}
use Rattle.session_model.specs.Keeping.{AreStepsOf}
use Rattle.session_model.specs.Lives.{Account, IsRunIn, Lived, Renewed, Stepped, TurnsHoldIn, account_in, steps_in}
use Rattle.session_parts.specs.Rounds.{RoundStands}
use Rattle.pubsub_engine.specs.declared.session.Session.{Session}
use Rattle.pubsub_engine.specs.Holding.{plan_of, ticks_of}
use Rattle.pubsub_engine.specs.Storing.{HaveStored}

-- its parts are as these steps, of which this became, leave them
pub record StandsAs (p : Plan) (steps : List Step) (a : Account) (s : Session) : Type 0 where
  pub plan : plan_of s ≡ p
  pub closed : s.left.is_closed ≡ is_closed steps
  pub ticks : ticks_in steps + s.left.ticks ≤ ticks_of s + 1
  pub pumps : pumps_in steps + s.left.pumps ≡ ticks_in steps
  pub metas : s.sets.metas.items ≡ metas_at p.config steps
  pub stores_are : HaveStored p.config (λ place. a.stores place.0 place.1) s.stores
  pub round : RoundStands p steps a s.round

-- it stands where this life leaves it
pub record StandsIn (p : Plan) (life : List Lived) (s : Session) : Type 0 where
  pub run : IsRunIn p life
  pub steps_are : AreStepsOf (ticks_of s) p (steps_in life)
  pub turns : TurnsHoldIn p life
  pub parts : StandsAs p (steps_in life) (account_in p life) s

-- where one step more leads from one session and link to another: what the link tells is then the journal, if it was before
pub record LeadsIn (p : Plan) (before : List Lived) (step : Step) (told after : Option LinkState) (s : Session) : Type 0 where
  pub stands : StandsIn p (Stepped step ∷ before) s
  pub tells : TellsJournal (account_in p before).journal told → TellsJournal (account_in p (Stepped step ∷ before)).journal after

-- wherever a life left it, it still stands
abbrev pub KeepsLife : Session → Session → Type 0
KeepsLife old new = (p : Plan) (life : List Lived) → StandsIn p life old → StandsIn p life new

-- wherever a life left it, it stands where a ring with these sets for the key group leads
abbrev pub LeadsRenewed : ℕ → List KeySet → Session → Session → Type 0
LeadsRenewed k sets old new = (p : Plan) (life : List Lived) → StandsIn p life old → StandsIn p (Renewed k sets ∷ life) new
