-- An appended field: where it leaves the session.
use Rattle.std.proofs.Common.{◌≡◌, refl, sym, ap, ◌∙◌, subst, arith, ℕ, ◌+◌, ◌<◌, ◌≤◌, List, ◌∷◌, length, map, drop, get_or}
use Rattle.std.specs.Prelude.{Vec, slice_get, slice_set}
use Rattle.std.specs.declared.alloc.Global.{Global}
use Rattle.std.proofs.lemmas.List.{drop_more, get_or-set_other}
use Rattle.std.proofs.lemmas.Option.{slice_get-get_or}
use Rattle.dataset_meta.specs.declared.field.Field.{Field}
use Rattle.dataset_meta.specs.Metas.{MetaData, grown, no_meta}
use Rattle.ps_config.specs.declared.parts.Config.{Config}
use Rattle.ps_script.specs.Past.{grown_at}
use Rattle.pubsub_states.specs.declared.component.Component.TheVariants.{Root, Connection, Group, Writer, ReadGroup, Reader}
use Rattle.pubsub_states.specs.Changes.{TreeValue}
use Rattle.session_model.specs.Steps.{Plan, Step, Append}
use Rattle.session_model.specs.Counts.{pumps_in, ticks_in}
use Rattle.session_model.specs.Sets.{MayAppend, GrowTo, metas_at, meta_in}
use Rattle.session_model.specs.Keeping.{AreStepsOf, MayGrow}
use Rattle.session_model.specs.Deeds.{RefreshedSet}
use Rattle.session_model.specs.Lives.{Account, Lived, Stepped, account_in, account_of, flags_by, stepped, steps_in}
use Rattle.session_parts.specs.declared.publisher.Publisher.{Publisher}
use Rattle.session_parts.specs.Holding.{AreGroups, AreSameButSet, AreStillLogged, HoldPublisher, MayAllGoOn}
use Rattle.session_parts.specs.Refreshed.{AllGoOnGrown, HaveRefreshedSet}
use Rattle.session_parts.specs.Standing.{AreReceivesIn, AreSendsIn, HasFlags, HaveOutcomesOf, HavePast, HaveReadings, HaveSent, HaveTallies}
use Rattle.pubsub_engine.specs.declared.session.Session.{Session}
use Rattle.pubsub_engine.specs.declared.sets.Sets.{Sets}
use Rattle.pubsub_engine.specs.declared.sets.Growth.{Growth}
use Rattle.pubsub_engine.specs.Holding.{AreSets, AreToCome, Grows, HoldSamples, HoldSets, IsSession, KeepsPasses, MayAppendNext, appends_left, plan_of, ticks_of}
use Rattle.pubsub_engine.specs.Standing.{Stands}
use Rattle.pubsub_engine.specs.Living.{StandsAs, StandsIn}
use Rattle.pubsub_engine.proofs.Lives.{as-stands, stands-of}
use Rattle.pubsub_engine.specs.Storing.{HaveStored}
use Rattle.session_parts.proofs.Passed.{some-of}
use Rattle.pubsub_engine.proofs.NowSets.{first-of}

-- ---- the data sets

-- the data sets behind the append
grown-is : (metas : List MetaData) (set : ℕ) (field : Field) → set < length metas → slice_set metas set (grown (meta_in metas set) field) ≡ grown_at metas set field (slice_get metas set)
grown-is metas set field there = sym (ap (grown_at metas set field) (slice_get-get_or metas set no_meta there))

-- no other data set changes
same-but : (metas : List MetaData) (set : ℕ) (meta : MetaData) → AreSameButSet set metas (slice_set metas set meta)
same-but metas set meta k other = get_or-set_other metas set k meta no_meta other

-- the data sets' next growth is made
pub record IsNext (old new : Sets) (set : ℕ) (growth : Growth) : Type 0 where
  pub left : old.made < length old.later.items
  pub next : drop old.made old.later.items ≡ growth ∷ drop (old.made + 1) old.later.items
  pub set_is : set ≡ growth.set
  pub metas : new.metas.items ≡ slice_set old.metas.items growth.set growth.meta
  pub made : new.made ≡ old.made + 1
  pub full : new.full ≡ old.full
  pub count : length new.later.items ≡ length old.later.items
  pub later : drop (old.made + 1) new.later.items ≡ drop (old.made + 1) old.later.items

pub not-none : (a b : ℕ) → a < b → 0 < b
not-none a b low = omega (arith, low)

-- the growth that is next
abbrev pub growth-of : (sets : Sets) → sets.made < length sets.later.items → Growth
growth-of sets left = get_or sets.later.items sets.made (some-of sets.later.items (not-none sets.made (length sets.later.items) left))

-- what the sets' append makes of them, whatever stands for a growth that isn't there
abbrev pub MakesNext : Sets → Sets → ℕ → Type 0
MakesNext old new set =
    (d : Growth) → let growth = get_or old.later.items old.made d in (new.metas.items ≡ slice_set old.metas.items growth.set growth.meta) × (set ≡ growth.set)

next-of : (old new : Sets) (set : ℕ) → (left : old.made < length old.later.items) → MakesNext old new set → new.made ≡ old.made + 1 → new.full ≡ old.full
    → length new.later.items ≡ length old.later.items → drop (old.made + 1) new.later.items ≡ drop (old.made + 1) old.later.items → IsNext old new set (growth-of old left)
next-of old new set left makes made full count later =
    let d : Growth = some-of old.later.items (not-none old.made (length old.later.items) left) in record {
      left = left;
      next = drop_more old.later.items old.made d left;
      set_is = (makes d).1;
      metas = (makes d).0;
      made = made;
      full = full;
      count = count;
      later = later;
    }

-- its data set is there
pub there-next : (config : Config) (sets : Sets) → HoldSets config sets → sets.made < length sets.later.items → (d : Growth)
    → (get_or sets.later.items sets.made d).set < length sets.metas.items
there-next config sets holds left d = first.1.may.there
  where
    first : AreToCome config sets.full.items sets.metas.items (get_or sets.later.items sets.made d ∷ drop (sets.made + 1) sets.later.items)
    first = subst (λ (l : List Growth). AreToCome config sets.full.items sets.metas.items l) (drop_more sets.later.items sets.made d left) holds.to_come

-- it is the first of those to come
comes : (config : Config) (old new : Sets) (set : ℕ) (growth : Growth) → HoldSets config old → IsNext old new set growth
    → AreToCome config old.full.items old.metas.items (growth ∷ drop (old.made + 1) old.later.items)
comes config old new set growth holds is = subst (λ (l : List Growth). AreToCome config old.full.items old.metas.items l) is.next holds.to_come

pub next-grows : (config : Config) (old new : Sets) (set : ℕ) (growth : Growth) → HoldSets config old → IsNext old new set growth → Grows config old.metas.items growth
next-grows config old new set growth holds is = (comes config old new set growth holds is).1

next-sets : (config : Config) (old new : Sets) (set : ℕ) (growth : Growth) → HoldSets config old → IsNext old new set growth
    → AreSets config old.full.items (slice_set old.metas.items growth.set growth.meta)
next-sets config old new set growth holds is =
    first-of config old.full.items (slice_set old.metas.items growth.set growth.meta) (drop (old.made + 1) old.later.items) (comes config old new set growth holds is).2

next-holds : (config : Config) (old new : Sets) (set : ℕ) (growth : Growth) → HoldSets config old → IsNext old new set growth → HoldSets config new
next-holds config old new set growth holds is = record {
  made = omega (arith, is.made, is.left, is.count);
  to_come = subst (λ (n : ℕ). AreToCome config new.full.items new.metas.items (drop n new.later.items)) (sym is.made)
      (subst (λ (l : List Growth). AreToCome config new.full.items new.metas.items l) (sym is.later)
      (subst (λ (m : List MetaData). AreToCome config new.full.items m (drop (old.made + 1) old.later.items)) (sym is.metas)
      (subst (λ (f : Vec MetaData Global). AreToCome config f.items (slice_set old.metas.items growth.set growth.meta) (drop (old.made + 1) old.later.items)) (sym is.full)
      (comes config old new set growth holds is).2)));
}

-- ---- the session

-- the writers of a data set whose meta may be another were refreshed
pub record Refreshes (config : Config) (set : ℕ) (old new : Publisher) : Type 0 where
  pub groups : AreGroups config new.groups.items
  pub past : HaveRefreshedSet config set old.groups.items new.groups.items
  pub goes_on : AllGoOnGrown config set old.groups.items new.groups.items
  pub logs : AreStillLogged old.groups.items new.groups.items
  pub rest : new ≡ record old { groups = new.groups }

-- the next growth is made, and the writers of its data set are refreshed
pub record AppendsNext (old new : Session) (set : ℕ) (growth : Growth) : Type 0 where
  pub next : IsNext old.sets new.sets set growth
  pub refreshes : Refreshes old.config.now set old.round.publisher new.round.publisher
  pub changed : new ≡ record old { sets = new.sets; round = record old.round { publisher = new.round.publisher } }

pub appends-of : (old : Session) (sets : Sets) (publisher : Publisher) (set : ℕ) → (left : old.sets.made < length old.sets.later.items) → MakesNext old.sets sets set
    → sets.made ≡ old.sets.made + 1 → sets.full ≡ old.sets.full → length sets.later.items ≡ length old.sets.later.items
    → drop (old.sets.made + 1) sets.later.items ≡ drop (old.sets.made + 1) old.sets.later.items
    → Refreshes old.config.now set old.round.publisher publisher
    → AppendsNext old (record old { sets = sets; round = record old.round { publisher = publisher } }) set (growth-of old.sets left)
appends-of old sets publisher set left makes made full count later refreshes = record {
  next = next-of old.sets sets set left makes made full count later;
  refreshes = refreshes;
  changed = refl;
}

holds-refreshed : (config : Config) (set : ℕ) (old new : Publisher) → HoldPublisher config old → Refreshes config set old new → HoldPublisher config new
holds-refreshed config set old new holds refreshes = subst (HoldPublisher config) (sym refreshes.rest) (record {
  groups = refreshes.groups;
  senders = holds.senders;
  reserved = holds.reserved;
  sends = holds.sends;
})

pub appended-session : (old new : Session) (set : ℕ) (growth : Growth) → IsSession old → AppendsNext old new set growth → IsSession new
appended-session old new set growth session appends = subst IsSession (sym appends.changed) (record {
  good = session.good;
  sets = next-holds old.config.now old.sets new.sets set growth session.sets next;
  samples = subst (λ (f : Vec MetaData Global). HoldSamples f.items old.samples) (sym next.full) session.samples;
  round = record {
    publisher = holds-refreshed old.config.now set old.round.publisher new.round.publisher session.round.publisher appends.refreshes;
    subscriber = session.round.subscriber;
    tree = session.round.tree;
    buffers = session.round.buffers;
  };
  goes_on = subst (λ (m : List MetaData). MayAllGoOn old.config.now m old.left.ticks new.round.publisher.groups.items) (sym next.metas)
      (refreshes.goes_on old.sets.metas.items (slice_set old.sets.metas.items growth.set growth.meta) old.left.ticks (same-but old.sets.metas.items growth.set growth.meta) session.goes_on);
  logged = refreshes.logs old.left.logged session.logged;
  stores = session.stores;
  time = session.time;
  calls = session.calls;
})
  where
    next : IsNext old.sets new.sets set growth
    next = appends.next

    refreshes : Refreshes old.config.now growth.set old.round.publisher new.round.publisher
    refreshes = subst (λ (s : ℕ). Refreshes old.config.now s old.round.publisher new.round.publisher) appends.next.set_is appends.refreshes

pub appended-keeps : (old new : Session) (set : ℕ) (growth : Growth) → AppendsNext old new set growth → KeepsPasses old new
appended-keeps old new set growth appends = subst (KeepsPasses old) (sym appends.changed) (record {
  plan = ap (λ (f : Vec MetaData Global). record { config = old.config.now; full = f.items }) appends.next.full;
  passes = refl;
  sampled = refl;
  keeper = refl;
  stores = refl;
  logged = refl;
})

pub appended-next : (old new : Session) (set : ℕ) (growth : Growth) → AppendsNext old new set growth → appends_left old ≡ set ∷ appends_left new
appended-next old new set growth appends =
    let next : IsNext old.sets new.sets set growth = appends.next in
    let of : Growth → ℕ = λ g. g.set in
    let behind : List Growth = drop (old.sets.made + 1) old.sets.later.items in
    ap (map of) next.next
    ∙ ap (λ (s : ℕ). s ∷ map of behind) (sym next.set_is)
    ∙ ap (λ (l : List Growth). set ∷ map of l) (sym next.later)
    ∙ ap (λ (n : ℕ). set ∷ map of (drop n new.sets.later.items)) (sym next.made)

-- ---- where it stands

flags-appended : (p : Plan) (before : List Step) (a : Account) (set : ℕ) (field : Field) (tree : TreeValue) → HasFlags (flags_by p.config before a) tree
    → HasFlags (flags_by p.config (Append set field ∷ before) (stepped p before a (Append set field))) tree
flags-appended p before a set field tree flags Root among = flags Root among
flags-appended p before a set field tree flags Connection among = flags Connection among
flags-appended p before a set field tree flags (Group g) among = flags (Group g) among
flags-appended p before a set field tree flags (Writer g w) among = flags (Writer g w) among
flags-appended p before a set field tree flags (ReadGroup r) among = flags (ReadGroup r) among
flags-appended p before a set field tree flags (Reader r i) among = flags (Reader r i) among

-- where an append leads
pub record HasAppended (p : Plan) (before : List Step) (a : Account) (set : ℕ) (old new : Session) : Type 0 where
  pub field : Field
  pub may : MayGrow p before set field
  pub kept : ticks_of new ≡ ticks_of old
  pub stands : StandsAs p (Append set field ∷ before) (stepped p before a (Append set field)) new

appended-of : (p : Plan) (before : List Step) (a : Account) (set : ℕ) (field : Field) (old new : Session) → StandsAs p before a old
    → plan_of new ≡ plan_of old
    → new ≡ record old { sets = new.sets; round = record old.round { publisher = new.round.publisher } }
    → new.round.publisher ≡ record old.round.publisher { groups = new.round.publisher.groups }
    → new.sets.metas.items ≡ metas_at p.config (Append set field ∷ before)
    → HavePast p.config (metas_at p.config (Append set field ∷ before)) (RefreshedSet set ∷ a.deeds) new.round.publisher.groups.items
    → StandsAs p (Append set field ∷ before) (stepped p before a (Append set field)) new
appended-of p before a set field old new stands same changed parts metas past = record {
  plan = same ∙ stands.plan;
  closed = ap (λ (s : Session). s.left.is_closed) changed ∙ stands.closed;
  ticks = subst (λ (s : Session). ticks_in before + s.left.ticks ≤ ticks_of s + 1) (sym changed) stands.ticks;
  pumps = subst (λ (s : Session). pumps_in before + s.left.pumps ≡ ticks_in before) (sym changed) stands.pumps;
  metas = metas;
  stores_are = subst (λ (s : Session). HaveStored p.config (λ place. a.stores place.0 place.1) s.stores) (sym changed) stands.stores_are;
  round = record {
    moment = ap (λ (s : Session). s.round.moment) changed ∙ stands.round.moment;
    groups = past;
    senders = subst (λ (q : Publisher). HaveSent p.config a.deeds q.senders.items) (sym parts) stands.round.senders;
    outcomes = subst (λ (q : Publisher). HaveOutcomesOf p.config a.sent a.failing q.sends.items) (sym parts) stands.round.outcomes;
    sends = subst (λ (q : Publisher). AreSendsIn a.journal q.link) (sym parts) stands.round.sends;
    readings = subst (λ (s : Session). HaveReadings p.config a.readings s.round.subscriber.groups.items) (sym changed) stands.round.readings;
    tallies = subst (λ (s : Session). HaveTallies p.config a.readings s.round.subscriber.tallies.items) (sym changed) stands.round.tallies;
    receives =
        let is : AreReceivesIn a.journal before new.round.receiving = subst (λ (s : Session). AreReceivesIn a.journal before s.round.receiving) (sym changed) stands.round.receives in
        record { received = is.received; broken = is.broken; long = is.long; limit = is.limit };
    flags = flags-appended p before a set field new.round.tree (subst (λ (s : Session). HasFlags (flags_by p.config before a) s.round.tree) (sym changed) stands.round.flags);
  };
}

-- of the session's own plan
appended-own : (before : List Step) (a : Account) (old new : Session) (growth : Growth) → MayAppendNext old → AppendsNext old new growth.set growth → StandsAs (plan_of old) before a old
    → HasAppended (plan_of old) before a growth.set old new
appended-own before a old new growth may appends stands =
    let config : Config = old.config.now in
    let set : ℕ = growth.set in
    let now : List MetaData = old.sets.metas.items in
    let past : List MetaData = metas_at config before in
    let grows : Grows config now growth = next-grows config old.sets new.sets set growth may.session.sets appends.next in
    let field : Field = grows.field in
    let there : set < length past = subst (λ (m : List MetaData). set < length m) stands.metas grows.may.there in
    let after : List MetaData = metas_at config (Append set field ∷ before) in
    let grown_are : slice_set now set growth.meta ≡ after
    = ap (λ (m : MetaData). slice_set now set m) grows.meta
    ∙ ap (λ (m : List MetaData). slice_set m set (grown (meta_in m set) field)) stands.metas
    ∙ grown-is past set field there in record {
      field = field;
      may = record {
        may = subst (λ (m : List MetaData). MayAppend config past set m) grown_are
            (subst (λ (m : List MetaData). MayAppend config m set (slice_set now set growth.meta)) stands.metas grows.may);
        grow = subst (λ (m : List MetaData). GrowTo m old.sets.full.items) grown_are (next-sets config old.sets new.sets set growth may.session.sets appends.next).grow;
        running = sym stands.closed ∙ may.running;
      };
      kept = ap ticks_of appends.changed;
      stands = appended-of (plan_of old) before a set field old new stands (appended-keeps old new set growth appends).plan appends.changed appends.refreshes.rest
          (appends.next.metas ∙ grown_are)
          (appends.refreshes.past past after a.deeds
          (subst (λ (m : List MetaData). AreSameButSet set past m) (grown-is past set field there) (same-but past set (grown (meta_in past set) field))) stands.round.groups);
    }

pub appended-as : (p : Plan) (before : List Step) (a : Account) (old new : Session) (set : ℕ) (growth : Growth) → MayAppendNext old → AppendsNext old new set growth → StandsAs p before a old
    → HasAppended p before a set old new
appended-as p before a old new set growth may appends stands =
    subst (λ (s : ℕ). HasAppended p before a s old new) (sym appends.next.set_is)
    (subst (λ (q : Plan). StandsAs q before a old → HasAppended q before a growth.set old new) stands.plan
    (appended-own before a old new growth may (subst (λ (s : ℕ). AppendsNext old new s growth) appends.next.set_is appends)) stands)

-- behind steps alone
pub appended : (p : Plan) (before : List Step) (old new : Session) (set : ℕ) (growth : Growth) → MayAppendNext old → AppendsNext old new set growth → Stands p before old
    → (field : Field) × Stands p (Append set field ∷ before) new
appended p before old new set growth may appends stands =
    let has = appended-as p before (account_of p before) old new set growth may appends (as-stands p before old stands) in (
      has.field,
      stands-of p (Append set has.field ∷ before) new stands.run (has.may, subst (λ (m : ℕ). AreStepsOf m p before) (sym has.kept) stands.steps_are) stands.turns has.stands,
    )

-- in a life
pub appended-lives : (p : Plan) (life : List Lived) (old new : Session) (set : ℕ) → StandsIn p life old → HasAppended p (steps_in life) (account_in p life) set old new
    → (field : Field) × StandsIn p (Stepped (Append set field) ∷ life) new
appended-lives p life old new set stands has = (
  has.field,
  record {
    run = (tt, stands.run);
    steps_are = (has.may, subst (λ (m : ℕ). AreStepsOf m p (steps_in life)) (sym has.kept) stands.steps_are);
    turns = (tt, stands.turns);
    parts = has.stands;
  },
)
