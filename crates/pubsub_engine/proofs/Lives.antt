-- Where a session stands behind steps alone is where it stands as what became of them.
use Rattle.std.proofs.Common.{◌≡◌, refl, sym, ◌∙◌, subst, ℕ, List, get_or}
use Rattle.reader_group.specs.Groups.{Stands as ReadingStands}
use Rattle.session_model.specs.Steps.{Plan, Step}
use Rattle.session_model.specs.Keeping.{AreStepsOf}
use Rattle.session_model.specs.Lives.{Account, account_of}
use Rattle.session_model.specs.Readings.{Reading, setting_in}
use Rattle.session_model.specs.Sends.{IsRun}
use Rattle.session_model.specs.Stores.{Store}
use Rattle.session_model.specs.Turns.{TurnsHold}
use Rattle.session_parts.specs.Standing.{IsTallyOf}
use Rattle.session_parts.proofs.Accounts.{same-flags}
use Rattle.pubsub_engine.specs.declared.session.Session.{Session}
use Rattle.pubsub_engine.specs.Holding.{ticks_of}
use Rattle.pubsub_engine.specs.Standing.{Stands}
use Rattle.pubsub_engine.specs.Living.{StandsAs}
use Rattle.pubsub_engine.specs.Storing.{IsStoredAs, meta_at_place}

-- ---- steps alone

pub as-stands : (p : Plan) (steps : List Step) (s : Session) → Stands p steps s → StandsAs p steps (account_of p steps) s
as-stands p steps s stands = record {
  plan = stands.plan;
  closed = stands.closed;
  ticks = stands.ticks;
  pumps = stands.pumps;
  metas = stands.metas;
  stores_are = stands.stores_are;
  round = stands.round;
}

pub stands-of : (p : Plan) (steps : List Step) (s : Session) → IsRun p steps → AreStepsOf (ticks_of s) p steps → TurnsHold p steps → StandsAs p steps (account_of p steps) s → Stands p steps s
stands-of p steps s run steps_are turns stands = record {
  plan = stands.plan;
  run = run;
  steps_are = steps_are;
  turns = turns;
  closed = stands.closed;
  ticks = stands.ticks;
  pumps = stands.pumps;
  metas = stands.metas;
  stores_are = stands.stores_are;
  round = stands.round;
}

-- ---- accounts that differ in readings and stores by their form alone

pub same-stands : (p : Plan) (steps : List Step) (a b : Account) (s : Session) → b ≡ record a { readings = b.readings; stores = b.stores } → ((r : ℕ) → a.readings r ≡ b.readings r)
    → ((r i : ℕ) → a.stores r i ≡ b.stores r i) → StandsAs p steps a s → StandsAs p steps b s
same-stands p steps a b s rest same stored stands = subst (λ (x : Account). StandsAs p steps x s) (sym rest) (record {
  plan = stands.plan;
  closed = stands.closed;
  ticks = stands.ticks;
  pumps = stands.pumps;
  metas = stands.metas;
  stores_are = λ k place at. subst (λ (l : List Store). IsStoredAs (meta_at_place p.config place) l s.stores k) (stored place.0 place.1) (stands.stores_are k place at);
  round = record {
    moment = stands.round.moment;
    groups = stands.round.groups;
    senders = stands.round.senders;
    outcomes = stands.round.outcomes;
    sends = stands.round.sends;
    readings = λ r low d. subst (λ (x : Reading). ReadingStands (setting_in p.config r x) x.value (get_or s.round.subscriber.groups.items r d)) (same r) (stands.round.readings r low d);
    tallies = λ r low d. subst (λ (x : Reading). IsTallyOf x.answered (get_or s.round.subscriber.tallies.items r d)) (same r) (stands.round.tallies r low d);
    receives = stands.round.receives;
    flags = λ c there. stands.round.flags c there ∙ same-flags p.config steps a (record a { readings = b.readings; stores = b.stores }) refl same c;
  };
})
