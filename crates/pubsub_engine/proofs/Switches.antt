-- Switches: where they leave the session.
use Rattle.std.proofs.Common.{◌≡◌, refl, sym, ap, ◌∙◌, subst, arith, ℕ, ◌-◌, Bool, true, false, List, [], ◌∷◌, Some, get_or}
use Rattle.std.specs.Prelude.{fold, slice_get, unwrap_or, vec_len, ◌==◌, if◌then◌else◌}
use Rattle.std.proofs.lemmas.Option.{slice_get-get_or}
use Rattle.dataset_meta.specs.Rows.{cons_if}
use Rattle.ps_config.specs.declared.parts.Config.{Config}
use Rattle.pubsub_model.specs.declared.reading.Why.TheVariants.{Restarted}
use Rattle.pubsub_states.specs.declared.component.Component.{Component}
use Rattle.pubsub_states.specs.declared.component.Component.TheVariants.{Root, Connection, Group, Writer, ReadGroup, Reader}
use Rattle.pubsub_states.specs.declared.flags.Flags.{Flags}
use Rattle.pubsub_states.specs.declared.tree.Switched.TheVariants.{Done, InvalidState}
use Rattle.pubsub_states.specs.Components.{Counts, IsAmong, IsId, components, counts_of, id_of, is_at_or_above}
use Rattle.pubsub_states.specs.Changes as changes
use Rattle.pubsub_states.specs.Changes.{TreeValue, Changes, flags_in, is_enabled}
use Rattle.pubsub_states.proofs.Places.{placed}
use Rattle.reader_group.specs.Plain.{Event, Setting, Stopped}
use Rattle.writer_group.specs.Standing.{IsReserved}
use Rattle.session_model.specs.Steps.{Plan, Step, Enable, Disable, is_on, switches_in}
use Rattle.session_model.specs.Sets.{metas_at}
use Rattle.session_model.specs.Deeds.{RefreshedBelow, component_at}
use Rattle.session_model.specs.Events.{reader_indexes, stopped_below}
use Rattle.session_model.specs.Lives.{Account, Lived, Stepped, account_in, account_of, flags_by, has_fault_by, is_ready_by, late_in, reading_after, ready_in, stepped, steps_in}
use Rattle.session_model.specs.Readings.{Reading, answered_on, setting_in}
use Rattle.session_parts.specs.declared.publisher.Publisher.{Publisher}
use Rattle.session_parts.specs.declared.round.Round.{Round}
use Rattle.session_parts.specs.declared.subscriber.Subscriber.{Subscriber}
use Rattle.session_parts.specs.declared.tally.Tally.{Tally}
use Rattle.session_parts.specs.Standing.{AreReceivesIn, AreSendsIn, HasFlags, HaveOutcomesOf, HavePast, HaveReadAll, HaveReadings, HaveSent, HaveTallies, IsTallyOf}
use Rattle.session_parts.specs.Holding.{AreGroups, AreSenders, AreStillLogged, HoldSubscriber}
use Rattle.session_parts.specs.Refreshed.{AllGoOn, HaveDone}
use Rattle.session_parts.specs.Befalling.{HaveStoppedBelow}
use Rattle.session_parts.specs.Pumping.{TellsReaders}
use Rattle.pubsub_engine.specs.declared.session.Session.{Session}
use Rattle.session_model.specs.Keeping.{AreStepsOf, MaySwitch}
use Rattle.pubsub_engine.specs.Holding.{IsRunning, IsSession, plan_of, ticks_of}
use Rattle.pubsub_engine.specs.Standing.{Stands}
use Rattle.pubsub_engine.specs.Living.{StandsAs, StandsIn}
use Rattle.session_parts.proofs.Accounts.{reading-disabled}
use Rattle.pubsub_engine.proofs.Lives.{as-stands, same-stands, stands-of}
use Rattle.pubsub_engine.specs.Storing.{HaveStored}

-- ---- the component with an id

component-found : (config : Config) (id : ℕ) → IsId (counts_of config) id → slice_get (components (counts_of config)) id ≡ Some (component_at config id)
component-found config id there =
    let found = slice_get-get_or (components (counts_of config)) id Root there in
    found ∙ ap Some (sym (ap (λ o. unwrap_or o Root) found))

-- the component that is found is the one with the id
pub component-is : (config : Config) (counts : Counts) (id : ℕ) (component : Component) → counts ≡ counts_of config → slice_get (components counts) id ≡ Some component
    → component_at config id ≡ component
component-is config counts id component same is =
    ap (λ o. unwrap_or o Root) (subst (λ (c : Counts). slice_get (components c) id ≡ Some component) same is)

-- the tree has a component as enabled where switches left it on
is-on : (p : Plan) (before : List Step) (a : Account) (id : ℕ) (tree : TreeValue) → tree.counts ≡ counts_of p.config → IsId (counts_of p.config) id → HasFlags (flags_by p.config before a) tree
    → (changes.flags_at tree id).enabled ≡ is_on p.config before (component_at p.config id)
is-on p before a id tree counts there flags =
    let found = placed (counts_of p.config) id (component_at p.config id) (component-found p.config id there) in
    ap (λ (n : ℕ). (changes.flags_at tree n).enabled) (sym (ap (λ (c : Counts). id_of c (component_at p.config id)) counts ∙ found.1))
    ∙ ap (λ (f : Flags). f.enabled) (flags (component_at p.config id) (subst (λ (c : Counts). IsAmong c (component_at p.config id)) (sym counts) found.0))

pub was-on-as : (old : Session) (id : ℕ) → IsSession old → IsId (counts_of old.config.now) id → (p : Plan) (before : List Step) (a : Account) → StandsAs p before a old
    → (changes.flags_at old.round.tree id).enabled ≡ is_on p.config before (component_at p.config id)
was-on-as old id session there p before a stands =
    subst (λ (q : Plan). StandsAs q before a old → (changes.flags_at old.round.tree id).enabled ≡ is_on q.config before (component_at q.config id)) stands.plan
    (λ at. is-on (plan_of old) before a id old.round.tree session.round.tree there at.round.flags) stands

pub was-on : (old : Session) (id : ℕ) → IsSession old → IsId (counts_of old.config.now) id → (p : Plan) (before : List Step) → Stands p before old
    → (changes.flags_at old.round.tree id).enabled ≡ is_on p.config before (component_at p.config id)
was-on old id session there p before stands = was-on-as old id session there p before (account_of p before) (as-stands p before old stands)

-- ---- answers

-- a switch on is done where the component was off
pub off-where-done : (on : Bool) → Done ≡ (if on then InvalidState else Done) → on ≡ false
off-where-done true is = cc
off-where-done false is = refl

pub on-where-done : (on : Bool) → Done ≡ (if on then Done else InvalidState) → on ≡ true
on-where-done true is = refl
on-where-done false is = cc

-- ---- flags

on-if : (b : Bool) (f : Flags) → (if b then record f { enabled = true } else f) ≡ record { enabled = if b then true else f.enabled; fault = f.fault; ready = f.ready }
on-if true f = refl
on-if false f = refl

off-if : (b : Bool) (f : Flags) → (if b then record f { enabled = false } else f) ≡ record { enabled = if b then false else f.enabled; fault = f.fault; ready = f.ready }
off-if true f = refl
off-if false f = refl

-- the flags of a component after a switch on, from those before it
flags-enabled : (p : Plan) (before : List Step) (a : Account) (id : ℕ) (old new : TreeValue) → old.counts ≡ counts_of p.config → Changes (changes.Enable id) old new
    → HasFlags (flags_by p.config before a) old → HasFlags (flags_by p.config (Enable id ∷ before) (stepped p before a (Enable id))) new
flags-enabled p before a id old new counts switched flags component among =
    ap (λ (n : Counts). changes.flags_at new (id_of n component)) switched.counts
    ∙ switched.flags (id_of old.counts component)
    ∙ on-if (id == id_of old.counts component) (flags_in old component)
    ∙ ap (λ (f : Flags). record { enabled = if id == id_of old.counts component then true else f.enabled; fault = f.fault; ready = f.ready }) (flags component there)
    ∙ ap (λ (n : Counts). record { enabled = if id == id_of n component then true else is_enabled (switches_in before) (id_of (counts_of p.config) component); fault = has_fault_by p.config a component; ready = is_ready_by a.readings component }) counts
    ∙ same component
  where
    there : IsAmong old.counts component
    there = subst (λ (c : Counts). IsAmong c component) switched.counts among

    flags_of : Component → Flags
    flags_of c = record { enabled = if id == id_of (counts_of p.config) c then true else is_enabled (switches_in before) (id_of (counts_of p.config) c); fault = has_fault_by p.config a c; ready = is_ready_by a.readings c }

    same : (c : Component) → flags_of c ≡ flags_by p.config (Enable id ∷ before) (stepped p before a (Enable id)) c
    same Root = refl
    same Connection = refl
    same (Group g) = refl
    same (Writer g w) = refl
    same (ReadGroup r) = refl
    same (Reader r i) = refl

-- those after a switch off
flags-off : (p : Plan) (before : List Step) (a : Account) (id : ℕ) (old new : TreeValue) → old.counts ≡ counts_of p.config → Changes (changes.Disable id) old new
    → HasFlags (flags_by p.config before a) old → (component : Component) → IsAmong old.counts component
    → flags_in new component ≡ record { enabled = is_on p.config (Disable id ∷ before) component; fault = has_fault_by p.config a component; ready = is_ready_by a.readings component }
flags-off p before a id old new counts switched flags component there =
    ap (λ (n : Counts). changes.flags_at new (id_of n component)) switched.counts
    ∙ switched.flags (id_of old.counts component)
    ∙ off-if (id == id_of old.counts component) (flags_in old component)
    ∙ ap (λ (f : Flags). record { enabled = if id == id_of old.counts component then false else f.enabled; fault = f.fault; ready = f.ready }) (flags component there)
    ∙ ap (λ (n : Counts). record { enabled = if id == id_of n component then false else is_enabled (switches_in before) (id_of (counts_of p.config) component); fault = has_fault_by p.config a component; ready = is_ready_by a.readings component }) counts

flags-disabled : (p : Plan) (before : List Step) (a : Account) (id : ℕ) (subscriber : Subscriber) (old mid new : TreeValue) → old.counts ≡ counts_of p.config → Changes (changes.Disable id) old mid
    → new.counts ≡ mid.counts → HaveReadings p.config (reading_after p.config before (Disable id) a) subscriber.groups.items → TellsReaders p.config subscriber mid new
    → HasFlags (flags_by p.config before a) old → HasFlags (flags_by p.config (Disable id ∷ before) (stepped p before a (Disable id))) new
flags-disabled p before a id subscriber old mid new counts switched kept read told flags component among = on component (subst (λ (c : Counts). IsAmong c component) kept among)
  where
    off : (c : Component) → IsAmong mid.counts c → flags_in mid c ≡ record { enabled = is_on p.config (Disable id ∷ before) c; fault = has_fault_by p.config a c; ready = is_ready_by a.readings c }
    off c there = flags-off p before a id old mid counts switched flags c (subst (λ (n : Counts). IsAmong n c) switched.counts there)

    on : (c : Component) → IsAmong mid.counts c → flags_in new c ≡ flags_by p.config (Disable id ∷ before) (stepped p before a (Disable id)) c
    on Root there = told.others Root there refl ∙ off Root there
    on Connection there = told.others Connection there refl ∙ off Connection there
    on (Group g) there = told.others (Group g) there refl ∙ off (Group g) there
    on (Writer g w) there = told.others (Writer g w) there refl ∙ off (Writer g w) there
    on (ReadGroup r) there = told.others (ReadGroup r) there refl ∙ off (ReadGroup r) there
    on (Reader r i) there =
        told.readers (reading_after p.config before (Disable id) a) r i read there
        ∙ ap (λ (e : Bool). record {
          enabled = e;
          fault = late_in (reading_after p.config before (Disable id) a) r i;
          ready = ready_in (reading_after p.config before (Disable id) a) r i;
        }) (ap (λ f. f.enabled) (off (Reader r i) there))

-- ---- enable

pub record DoesEnable (id : ℕ) (component : Component) (old new : Session) : Type 0 where
  pub changed : new ≡ record old { round = record old.round { tree = new.round.tree; publisher = new.round.publisher } }
  pub parts : new.round.publisher ≡ record old.round.publisher { groups = new.round.publisher.groups }
  pub there : IsId (counts_of old.config.now) id
  pub running : IsRunning old
  pub is_component : component_at old.config.now id ≡ component
  pub counts : old.round.tree.counts ≡ counts_of old.config.now
  pub was : (changes.flags_at old.round.tree id).enabled ≡ false
  pub switched : Changes (changes.Enable id) old.round.tree new.round.tree
  pub past : HaveDone old.config.now (RefreshedBelow component) old.round.publisher.groups.items new.round.publisher.groups.items

pub enabled-session : (old : Session) (tree : TreeValue) (publisher : Publisher) → IsSession old → tree.counts ≡ old.round.tree.counts
    → publisher ≡ record old.round.publisher { groups = publisher.groups } → AreGroups old.config.now publisher.groups.items
    → AllGoOn old.config.now old.round.publisher.groups.items publisher.groups.items → AreStillLogged old.round.publisher.groups.items publisher.groups.items
    → IsSession (record old { round = record old.round { tree = tree; publisher = publisher } })
enabled-session old tree publisher session kept parts groups goes_on logs = record {
  good = session.good;
  sets = session.sets;
  samples = session.samples;
  round = record {
    publisher = record {
      groups = groups;
      senders = subst (λ (q : Publisher). AreSenders old.config.now q.senders.items) (sym parts) session.round.publisher.senders;
      reserved = subst (λ (q : Publisher). IsReserved q.out) (sym parts) session.round.publisher.reserved;
      sends = ap (λ (q : Publisher). vec_len q.sends) parts ∙ session.round.publisher.sends;
    };
    subscriber = session.round.subscriber;
    tree = kept ∙ session.round.tree;
    buffers = session.round.buffers;
  };
  goes_on = goes_on old.sets.metas.items old.left.ticks session.goes_on;
  logged = logs old.left.logged session.logged;
  stores = session.stores;
  time = session.time;
  calls = session.calls;
}

-- where a switch leads
pub record HasSwitched (p : Plan) (before : List Step) (a : Account) (was_on : Bool) (id : ℕ) (step : Step) (old new : Session) : Type 0 where
  pub may : MaySwitch p.config before id was_on
  pub kept : ticks_of new ≡ ticks_of old
  pub stands : StandsAs p (step ∷ before) (stepped p before a step) new

enabled-of : (before : List Step) (a : Account) (id : ℕ) (component : Component) (old new : Session) → DoesEnable id component old new → StandsAs (plan_of old) before a old
    → StandsAs (plan_of old) (Enable id ∷ before) (stepped (plan_of old) before a (Enable id)) new
enabled-of before a id component old new does stands = record {
  plan = ap plan_of does.changed;
  closed = ap (λ (s : Session). s.left.is_closed) does.changed ∙ stands.closed;
  ticks = omega (arith, ap (λ (s : Session). s.left.ticks) does.changed, ap (λ (s : Session). s.left.stores) does.changed, stands.ticks);
  pumps = omega (arith, ap (λ (s : Session). s.left.pumps) does.changed, stands.pumps);
  metas = ap (λ (s : Session). s.sets.metas.items) does.changed ∙ stands.metas;
  stores_are = subst (λ (s : Session). HaveStored p.config (λ place. a.stores place.0 place.1) s.stores) (sym does.changed) stands.stores_are;
  round = record {
    moment = ap (λ (s : Session). s.round.moment) does.changed ∙ stands.round.moment;
    groups = subst (λ (c : Component). HavePast p.config (metas_at p.config before) (RefreshedBelow c ∷ a.deeds) new.round.publisher.groups.items) (sym does.is_component)
        (does.past (metas_at p.config before) a.deeds stands.round.groups);
    senders = subst (λ (q : Publisher). HaveSent p.config a.deeds q.senders.items) (sym does.parts) stands.round.senders;
    outcomes = subst (λ (q : Publisher). HaveOutcomesOf p.config a.sent a.failing q.sends.items) (sym does.parts) stands.round.outcomes;
    sends = subst (λ (q : Publisher). AreSendsIn a.journal q.link) (sym does.parts) stands.round.sends;
    readings = subst (λ (s : Session). HaveReadings p.config a.readings s.round.subscriber.groups.items) (sym does.changed) stands.round.readings;
    tallies = subst (λ (s : Session). HaveTallies p.config a.readings s.round.subscriber.tallies.items) (sym does.changed) stands.round.tallies;
    receives =
        let same : AreReceivesIn a.journal before new.round.receiving = subst (λ (s : Session). AreReceivesIn a.journal before s.round.receiving) (sym does.changed) stands.round.receives in
        record { received = same.received; broken = same.broken; long = same.long; limit = same.limit };
    flags = flags-enabled p before a id old.round.tree new.round.tree does.counts does.switched stands.round.flags;
  };
}
  where
    p : Plan
    p = plan_of old

pub enabled-as : (p : Plan) (before : List Step) (a : Account) (id : ℕ) (component : Component) (old new : Session) → DoesEnable id component old new → StandsAs p before a old
    → HasSwitched p before a false id (Enable id) old new
enabled-as p before a id component old new does stands =
    subst (λ (q : Plan). StandsAs q before a old → HasSwitched q before a false id (Enable id) old new) stands.plan
    (λ at. record {
      may = record {
        there = does.there;
        was = sym (is-on (plan_of old) before a id old.round.tree does.counts does.there at.round.flags) ∙ does.was;
        running = sym at.closed ∙ does.running;
      };
      kept = ap ticks_of does.changed;
      stands = enabled-of before a id component old new does at;
    })
    stands

pub enabled-stands : (p : Plan) (before : List Step) (id : ℕ) (component : Component) (old new : Session) → DoesEnable id component old new → Stands p before old
    → Stands p (Enable id ∷ before) new
enabled-stands p before id component old new does stands =
    let switched = enabled-as p before (account_of p before) id component old new does (as-stands p before old stands) in
    stands-of p (Enable id ∷ before) new stands.run (switched.may, subst (λ (m : ℕ). AreStepsOf m p before) (sym switched.kept) stands.steps_are) stands.turns switched.stands

-- in a life
pub switched-lives : (p : Plan) (life : List Lived) (id : ℕ) (old new : Session) → StandsIn p life old
    → HasSwitched p (steps_in life) (account_in p life) false id (Enable id) old new → StandsIn p (Stepped (Enable id) ∷ life) new
switched-lives p life id old new stands switched = record {
  run = (tt, stands.run);
  steps_are = (switched.may, subst (λ (m : ℕ). AreStepsOf m p (steps_in life)) (sym switched.kept) stands.steps_are);
  turns = (tt, stands.turns);
  parts = switched.stands;
}

-- ---- disable

-- a cut is no answer
answers-stay : (setting : Setting) (reading : Reading) (is_cut : Bool) (reader : ℕ) (befell : List Event)
    → answered_on setting reading (cons_if is_cut (Stopped reader Restarted) befell) ≡ answered_on setting reading befell
answers-stay setting reading true reader befell = refl
answers-stay setting reading false reader befell = refl

answers-kept : (setting : Setting) (reading : Reading) (r : ℕ) (component : Component) (readers : List ℕ) (befell : List Event)
    → answered_on setting reading (fold (λ so_far i. cons_if (is_at_or_above component (Reader r i)) (Stopped i Restarted) so_far) befell readers) ≡ answered_on setting reading befell
answers-kept setting reading r component [] befell = refl
answers-kept setting reading r component (i ∷ readers) befell =
    answers-kept setting reading r component readers (cons_if (is_at_or_above component (Reader r i)) (Stopped i Restarted) befell)
    ∙ answers-stay setting reading (is_at_or_above component (Reader r i)) i befell

tallies-stopped : (config : Config) (before : List Step) (id : ℕ) (a : Account) (tallies : List Tally) → HaveTallies config a.readings tallies
    → HaveTallies config (reading_after config before (Disable id) a) tallies
tallies-stopped config before id a tallies are r low d =
    subst (λ l. IsTallyOf l (get_or tallies r d))
    (sym (answers-kept (setting_in config r (a.readings r)) (a.readings r) r (component_at config id) (reader_indexes config r) [])) (are r low d)

pub record DoesDisable (id : ℕ) (component : Component) (old new : Session) (tree : TreeValue) : Type 0 where
  pub changed : new ≡ record old { round = record old.round { tree = new.round.tree; subscriber = new.round.subscriber } }
  pub parts : new.round.subscriber ≡ record old.round.subscriber { groups = new.round.subscriber.groups }
  pub there : IsId (counts_of old.config.now) id
  pub running : IsRunning old
  pub is_component : component_at old.config.now id ≡ component
  pub counts : old.round.tree.counts ≡ counts_of old.config.now
  pub was : (changes.flags_at old.round.tree id).enabled ≡ true
  pub switched : Changes (changes.Disable id) old.round.tree tree
  pub kept : new.round.tree.counts ≡ tree.counts
  pub stopped : HaveStoppedBelow old.config.now component old.round.subscriber new.round.subscriber
  pub told : TellsReaders old.config.now new.round.subscriber tree new.round.tree

pub disabled-session : (old : Session) (tree : TreeValue) (round : Round) → IsSession old → tree.counts ≡ old.round.tree.counts
    → round ≡ record old.round { tree = round.tree; subscriber = round.subscriber } → round.tree.counts ≡ tree.counts → HoldSubscriber old.config.now round.subscriber
    → IsSession (record old { round = round })
disabled-session old tree round session switched rest kept held = subst (λ (x : Round). IsSession (record old { round = x })) (sym rest) (record {
  good = session.good;
  sets = session.sets;
  samples = session.samples;
  round = record {
    publisher = session.round.publisher;
    subscriber = held;
    tree = kept ∙ switched ∙ session.round.tree;
    buffers = session.round.buffers;
  };
  goes_on = session.goes_on;
  logged = session.logged;
  stores = session.stores;
  time = session.time;
  calls = session.calls;
})

disabled-of : (before : List Step) (a : Account) (id : ℕ) (component : Component) (old new : Session) (tree : TreeValue) → DoesDisable id component old new tree → StandsAs (plan_of old) before a old
    → StandsAs (plan_of old) (Disable id ∷ before) (stepped (plan_of old) before a (Disable id)) new
disabled-of before a id component old new tree does stands = record {
  plan = ap plan_of does.changed;
  closed = ap (λ (s : Session). s.left.is_closed) does.changed ∙ stands.closed;
  ticks = omega (arith, ap (λ (s : Session). s.left.ticks) does.changed, ap (λ (s : Session). s.left.stores) does.changed, stands.ticks);
  pumps = omega (arith, ap (λ (s : Session). s.left.pumps) does.changed, stands.pumps);
  metas = ap (λ (s : Session). s.sets.metas.items) does.changed ∙ stands.metas;
  stores_are = subst (λ (s : Session). HaveStored p.config (λ place. a.stores place.0 place.1) s.stores) (sym does.changed) stands.stores_are;
  round = record {
    moment = ap (λ (s : Session). s.round.moment) does.changed ∙ stands.round.moment;
    groups = subst (λ (s : Session). HavePast p.config (metas_at p.config before) a.deeds s.round.publisher.groups.items) (sym does.changed) stands.round.groups;
    senders = subst (λ (s : Session). HaveSent p.config a.deeds s.round.publisher.senders.items) (sym does.changed) stands.round.senders;
    outcomes = subst (λ (s : Session). HaveOutcomesOf p.config a.sent a.failing s.round.publisher.sends.items) (sym does.changed) stands.round.outcomes;
    sends = subst (λ (s : Session). AreSendsIn a.journal s.round.publisher.link) (sym does.changed) stands.round.sends;
    readings = read;
    tallies = subst (λ (s : Subscriber). HaveTallies p.config (reading_after p.config before (Disable id) a) s.tallies.items) (sym does.parts)
        (tallies-stopped p.config before id a old.round.subscriber.tallies.items stands.round.tallies);
    receives =
        let same : AreReceivesIn a.journal before new.round.receiving = subst (λ (s : Session). AreReceivesIn a.journal before s.round.receiving) (sym does.changed) stands.round.receives in
        record { received = same.received; broken = same.broken; long = same.long; limit = same.limit };
    flags = flags-disabled p before a id new.round.subscriber old.round.tree tree new.round.tree does.counts does.switched does.kept read does.told stands.round.flags;
  };
}
  where
    p : Plan
    p = plan_of old

    read : HaveReadings old.config.now (reading_after old.config.now before (Disable id) a) new.round.subscriber.groups.items
    read = subst (λ (c : Component). HaveReadAll old.config.now a.readings (λ r. stopped_below old.config.now r c []) new.round.subscriber.groups.items) (sym does.is_component)
        (does.stopped a.readings (λ r. []) stands.round.readings)

pub disabled-as : (p : Plan) (before : List Step) (a : Account) (id : ℕ) (component : Component) (old new : Session) (tree : TreeValue) → DoesDisable id component old new tree → StandsAs p before a old
    → HasSwitched p before a true id (Disable id) old new
disabled-as p before a id component old new tree does stands =
    subst (λ (q : Plan). StandsAs q before a old → HasSwitched q before a true id (Disable id) old new) stands.plan
    (λ at. record {
      may = record {
        there = does.there;
        was = sym (is-on (plan_of old) before a id old.round.tree does.counts does.there at.round.flags) ∙ does.was;
        running = sym at.closed ∙ does.running;
      };
      kept = ap ticks_of does.changed;
      stands = disabled-of before a id component old new tree does at;
    })
    stands

pub disabled-stands : (p : Plan) (before : List Step) (id : ℕ) (component : Component) (old new : Session) (tree : TreeValue) → DoesDisable id component old new tree → Stands p before old
    → Stands p (Disable id ∷ before) new
disabled-stands p before id component old new tree does stands =
    let switched = disabled-as p before (account_of p before) id component old new tree does (as-stands p before old stands) in
    stands-of p (Disable id ∷ before) new stands.run (switched.may, subst (λ (m : ℕ). AreStepsOf m p before) (sym switched.kept) stands.steps_are) stands.turns
    (same-stands p (Disable id ∷ before) (stepped p before (account_of p before) (Disable id)) (account_of p (Disable id ∷ before)) new refl
    (λ r. reading-disabled p.config before id r) (λ r i. refl) switched.stands)

-- in a life
pub disabled-lives : (p : Plan) (life : List Lived) (id : ℕ) (old new : Session) → StandsIn p life old
    → HasSwitched p (steps_in life) (account_in p life) true id (Disable id) old new → StandsIn p (Stepped (Disable id) ∷ life) new
disabled-lives p life id old new stands switched = record {
  run = (tt, stands.run);
  steps_are = (switched.may, subst (λ (m : ℕ). AreStepsOf m p (steps_in life)) (sym switched.kept) stands.steps_are);
  turns = (tt, stands.turns);
  parts = switched.stands;
}
