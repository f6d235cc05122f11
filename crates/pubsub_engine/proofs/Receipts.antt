-- A pump: where what it takes and the stores leave the session.
use Rattle.std.proofs.Common.{◌≡◌, refl, sym, ap, ◌∙◌, subst, arith, ℕ, ◌+◌, ◌-◌, ◌*◌, ◌<◌, List, ◌∷◌, ◌++◌, Option}
use Rattle.std.specs.Prelude.{count_by}
use Rattle.ua_base.specs.Journal.{LinkState, Entry}
use Rattle.reader_group.specs.Members.{seat_at}
use Rattle.reader_group.specs.Plain.{member_at}
use Rattle.reader_group.specs.Settings.{setting_of}
use Rattle.session_model.specs.Steps.{Plan, Step, Pump}
use Rattle.session_model.specs.Counts.{most_ms, pumps_in, ticks_in}
use Rattle.session_model.specs.Keeping.{AreStepsOf}
use Rattle.session_model.specs.Lives.{Account, IsRunOn, Lived, account_in, account_of, reading_after, stepped, steps_in}
use Rattle.session_model.specs.Readings.{Reading}
use Rattle.session_model.specs.Sends.{TellsJournal}
use Rattle.session_model.specs.Stores.{Store, held_by, stored_on, stores}
use Rattle.session_model.specs.Closing.{MemberPlace, is_datagram}
use Rattle.session_parts.specs.declared.publisher.Publisher.{Publisher}
use Rattle.session_parts.specs.declared.round.Round.{Round}
use Rattle.session_parts.specs.Holding.{AreAllLogged, MayAllGoOn}
use Rattle.session_parts.specs.Rounds.{HoldRound, RoundPumped, RoundPumps}
use Rattle.session_parts.specs.Standing.{HaveReadings}
use Rattle.session_parts.proofs.Accounts.{reading-pumped}
use Rattle.pubsub_engine.specs.declared.session.Left.{Left}
use Rattle.pubsub_engine.specs.declared.session.Session.{Session}
use Rattle.pubsub_engine.specs.declared.storing.Stores.{Stores}
use Rattle.pubsub_engine.specs.Holding.{CountsPump, HoldStores, IsSession, plan_of, ticks_of}
use Rattle.pubsub_engine.specs.Standing.{Leads, Stands}
use Rattle.pubsub_engine.specs.Living.{LeadsIn, StandsAs, StandsIn}
use Rattle.pubsub_engine.specs.Storing.{HaveStored, stored_at}
use Rattle.pubsub_engine.proofs.Lives.{as-stands, same-stands, stands-of}

-- ---- the session

-- what a pump does to the parts of a session
pub record DoesPump (old new : Session) (taken : ℕ) (told after : Option LinkState) : Type 0 where
  pub changed : new ≡ record old { left = new.left; round = new.round; stores = new.stores }
  pub left : CountsPump old.left new.left
  pub pumped : RoundPumps old.config.now taken old.round new.round told after
  pub stored : (readings : ℕ → Reading) (list : MemberPlace → List Store) → HaveReadings old.config.now readings new.round.subscriber.groups.items
      → HaveStored old.config.now list old.stores → HaveStored old.config.now (stored_at old.config.now readings list) new.stores

pub pumped-session : (old : Session) (left : Left) (round : Round) (stores : Stores) → IsSession old → CountsPump old.left left → HoldRound old.config.now round
    → round ≡ record old.round { tree = round.tree; subscriber = round.subscriber; receiving = round.receiving }
    → ((limit later : ℕ) → HoldStores old.config.now limit (later + 1) old.stores → HoldStores old.config.now limit later stores)
    → IsSession (record old { left = left; round = round; stores = stores })
pumped-session old left round stores session counts holds rest stored = record {
  good = session.good;
  sets = session.sets;
  samples = session.samples;
  round = holds;
  goes_on = subst (λ (n : ℕ). MayAllGoOn old.config.now old.sets.metas.items n round.publisher.groups.items) (sym ticks)
      (subst (λ (q : Publisher). MayAllGoOn old.config.now old.sets.metas.items old.left.ticks q.groups.items) (sym publisher) session.goes_on);
  logged = subst (λ (n : ℕ). AreAllLogged n round.publisher.groups.items) (sym (ap (λ (l : Left). l.logged) counts.rest))
      (subst (λ (q : Publisher). AreAllLogged old.left.logged q.groups.items) (sym publisher) session.logged);
  stores = subst (λ (n : ℕ). HoldStores old.config.now n (left.ticks + left.pumps) stores) (sym (ap (λ (l : Left). l.stores) counts.rest))
      (stored old.left.stores (left.ticks + left.pumps) (subst (λ (n : ℕ). HoldStores old.config.now old.left.stores n old.stores) more session.stores));
  time = omega (arith, session.time, ap (λ (n : ℕ). n * most_ms) ticks, ap (λ (x : Round). x.moment) rest);
  calls = omega (arith, session.calls, ticks, counts.pumps);
}
  where
    ticks : left.ticks ≡ old.left.ticks
    ticks = ap (λ (l : Left). l.ticks) counts.rest

    more : old.left.ticks + old.left.pumps ≡ left.ticks + left.pumps + 1
    more = omega (arith, ap (λ (l : Left). l.ticks) counts.rest, counts.pumps)

    publisher : round.publisher ≡ old.round.publisher
    publisher = ap (λ (x : Round). x.publisher) rest

-- where a pump leads
pub record HasPumped (p : Plan) (before : List Step) (a : Account) (taken : ℕ) (old new : Session) (told after : Option LinkState) : Type 0 where
  pub entries : List Entry
  pub taken_are : taken ≡ count_by is_datagram entries
  pub run : IsRunOn p before a (Pump entries)
  pub may : pumps_in before < ticks_in before
  pub kept : ticks_of new ≡ ticks_of old
  pub stands : StandsAs p (Pump entries ∷ before) (stepped p before a (Pump entries)) new
  pub tells : TellsJournal a.journal told → TellsJournal (a.journal ++ entries) after

pumped-of : (before : List Step) (a : Account) (old new : Session) (taken : ℕ) (told after : Option LinkState) → DoesPump old new taken told after → StandsAs (plan_of old) before a old
    → HasPumped (plan_of old) before a taken old new told after
pumped-of before a old new taken told after does stands = record {
  entries = pumped.entries;
  taken_are = pumped.taken_are;
  run = pumped.run;
  may = omega (arith, stands.pumps, does.left.pumps);
  kept = ap (λ (l : Left). l.stores - 1) does.left.rest;
  stands = record {
    plan = ap plan_of does.changed;
    closed = ap (λ (l : Left). l.is_closed) does.left.rest ∙ stands.closed;
    ticks = omega (arith, ap (λ (l : Left). l.ticks) does.left.rest, ap (λ (l : Left). l.stores) does.left.rest, stands.ticks);
    pumps = omega (arith, stands.pumps, does.left.pumps);
    metas = ap (λ (s : Session). s.sets.metas.items) does.changed ∙ stands.metas;
    stores_are = does.stored (reading_after old.config.now before (Pump pumped.entries) a) (λ place. a.stores place.0 place.1) pumped.stands.readings stands.stores_are;
    round = pumped.stands;
  };
  tells = pumped.tells;
}
  where
    pumped : RoundPumped (plan_of old) before a taken new.round told after
    pumped = does.pumped (plan_of old) before a refl stands.round

pub pumped-as : (p : Plan) (before : List Step) (a : Account) (old new : Session) (taken : ℕ) (told after : Option LinkState) → DoesPump old new taken told after → StandsAs p before a old
    → HasPumped p before a taken old new told after
pumped-as p before a old new taken told after does stands =
    subst (λ (q : Plan). StandsAs q before a old → HasPumped q before a taken old new told after) stands.plan (pumped-of before a old new taken told after does) stands

-- behind steps alone
pub pumps-lead : (p : Plan) (before : List Step) (old new : Session) (taken : ℕ) (told after : Option LinkState) → DoesPump old new taken told after → Stands p before old
    → (entries : List Entry) × Leads p before (Pump entries) told after new × (taken ≡ count_by is_datagram entries)
pumps-lead p before old new taken told after does stands = (
  pumped.entries,
  record {
    stands = stands-of p (Pump pumped.entries ∷ before) new (pumped.run, stands.run) (pumped.may, subst (λ (m : ℕ). AreStepsOf m p before) (sym pumped.kept) stands.steps_are) stands.turns
        (same-stands p (Pump pumped.entries ∷ before) (stepped p before (account_of p before) (Pump pumped.entries)) (account_of p (Pump pumped.entries ∷ before)) new refl
        (λ r. reading-pumped p.config before pumped.entries r)
        (λ r i. ap (λ (x : Reading). stored_on (seat_at (setting_of p.config r).seats i).part.numbering (stores p.config r i before) (held_by (member_at x.value.members i)))
        (reading-pumped p.config before pumped.entries r))
        pumped.stands);
    tells = pumped.tells;
  },
  pumped.taken_are,
)
  where
    pumped : HasPumped p before (account_of p before) taken old new told after
    pumped = pumped-as p before (account_of p before) old new taken told after does (as-stands p before old stands)

-- in a life
pub pumps-live : (p : Plan) (life : List Lived) (old new : Session) (taken : ℕ) (told after : Option LinkState) → DoesPump old new taken told after → StandsIn p life old
    → (entries : List Entry) × LeadsIn p life (Pump entries) told after new × (taken ≡ count_by is_datagram entries)
pumps-live p life old new taken told after does stands = (
  pumped.entries,
  record {
    stands = record {
      run = (pumped.run, stands.run);
      steps_are = (pumped.may, subst (λ (m : ℕ). AreStepsOf m p (steps_in life)) (sym pumped.kept) stands.steps_are);
      turns = (tt, stands.turns);
      parts = pumped.stands;
    };
    tells = pumped.tells;
  },
  pumped.taken_are,
)
  where
    pumped : HasPumped p (steps_in life) (account_in p life) taken old new told after
    pumped = pumped-as p (steps_in life) (account_in p life) old new taken told after does stands.parts
