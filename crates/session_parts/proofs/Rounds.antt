-- What calls make of a round: it is opened, a ring renews its keys, a tick begins and ends, and a pump takes what came.
use Rattle.std.proofs.Common.{◌≡◌, sym, ap, ◌∙◌, subst, ℕ, ◌+◌, ◌<◌, ◌≤◌, Bool, List, [], ◌∷◌, ◌++◌, length, map, Option}
use Rattle.std.specs.Prelude.{Vec}
use Rattle.std.specs.declared.alloc.Global.{Global}
use Rattle.std.specs.List.{AllZip}
use Rattle.dataset_meta.specs.Metas.{MetaData}
use Rattle.row_words.specs.Belonging.{Belongs}
use Rattle.group_keys.specs.declared.key_set.KeySet.{KeySet}
use Rattle.message_guard.specs.Protection.{keys_in}
use Rattle.ua_base.specs.Journal.{Entry, LinkState}
use Rattle.ps_config.specs.declared.parts.Config.{Config}
use Rattle.pubsub_states.specs.Components.{counts_of}
use Rattle.pubsub_states.specs.Changes.{TreeValue}
use Rattle.reader_group.specs.Plain.{Expired}
use Rattle.writer_group.specs.declared.sampled.Sampled.{Sampled}
use Rattle.writer_group.specs.Parts.{group_at}
use Rattle.writer_group.specs.Standing.{AreMetas, IsGood}
use Rattle.session_model.specs.Steps.{Plan, Step, Tick}
use Rattle.session_model.specs.Counts.{most_taken}
use Rattle.session_model.specs.Sets.{metas_at}
use Rattle.session_model.specs.Events.{got_all}
use Rattle.session_model.specs.Lives.{Account, account_of, renewed}
use Rattle.session_model.specs.States.{flags_at}
use Rattle.session_parts.specs.declared.publisher.Publisher.{Publisher}
use Rattle.session_parts.specs.declared.publisher.Told.{Told}
use Rattle.session_parts.specs.declared.receiving.Receiving.{Receiving}
use Rattle.session_parts.specs.declared.round.Round.{Round}
use Rattle.session_parts.specs.declared.subscriber.Subscriber.{Subscriber}
use Rattle.session_parts.specs.declared.tally.Tally.{Tally}
use Rattle.session_parts.specs.Befalling.{HaveExpired}
use Rattle.session_parts.specs.Holding.{HoldSubscriber, MayAllGoOn}
use Rattle.session_parts.specs.Pumping.{HaveGot, PumpsTo, TellsReaders}
use Rattle.session_parts.specs.Renewing.{HaveRekeyed, HaveRenewed}
use Rattle.session_parts.specs.Rounds.{HoldRound, IsUnstepped, MayTickRound, RoundBegun, RoundPumped, RoundPumps, RoundRenews, RoundStands, RoundTicked}
use Rattle.session_parts.specs.Standing.{AreReceivesIn, AreSendsIn, HasFlags, HaveOutcomesOf, HavePast, HaveReadAll, HaveReadings, HaveSent, HaveTallies}
use Rattle.session_parts.specs.Ticking.{AllGoOnAfter, HasPassed, IsAt, IsToldOf, TickData, account_after, begun, readings_in}
use Rattle.session_parts.proofs.Accounts.{flags-as}
use Rattle.session_parts.proofs.Begun.{Begins, PartsStand, begun-at}
use Rattle.session_parts.proofs.Ended.{flags-end, receives-stay}
use Rattle.session_parts.proofs.Entries.{pump_sends}
use Rattle.session_parts.proofs.Fresh.{IsFreshPublisher, IsFreshReceiving, IsFreshSubscriber, IsFreshTree, fresh-flags}
use Rattle.session_parts.proofs.Pumped.{flags-pumped, receives-pumped, sends-pumped, switches, tells-pumped}
use Rattle.session_parts.proofs.Rekeying.{rekeyed-tallies}
use Rattle.session_parts.proofs.RenewedStates.{flags-stay}
use Rattle.session_parts.proofs.Ticks.{go-one}

-- ---- the opening

pub round-opened : (full : List MetaData) (config : Config) (turns : ℕ) (round : Round) → round.moment ≡ 0 → IsGood config → IsFreshPublisher config turns round.publisher
    → IsFreshSubscriber config round.subscriber → IsFreshReceiving round.receiving → IsFreshTree config round.publisher round.tree → IsUnstepped config full round
round-opened full config turns round start good publisher subscriber receiving tree = record {
  moment = start;
  groups = publisher.past;
  senders = publisher.senders;
  outcomes = publisher.sends;
  sends = publisher.link;
  readings = subscriber.read;
  tallies = subscriber.tallied;
  receives = record { received = receiving.counts.0; broken = receiving.counts.1; long = receiving.counts.2; limit = receiving.counts.3 };
  flags = λ c there. fresh-flags full config turns round.publisher round.tree good publisher tree c there ∙ flags-as (record { config = config; full = full }) [] c;
}

-- ---- a ring

pub record RenewsRound (config : Config) (k : ℕ) (sets : List KeySet) (old new : Round) : Type 0 where
  pub changed : new ≡ record old { publisher = new.publisher; subscriber = new.subscriber }
  pub sender : new.publisher ≡ record old.publisher { senders = new.publisher.senders }
  pub groups : new.subscriber ≡ record old.subscriber { groups = new.subscriber.groups }
  pub renewed_are : HaveRenewed k sets old.publisher.senders.items new.publisher.senders.items
  pub rekeyed_are : HaveRekeyed config k (map keys_in sets) old.subscriber new.subscriber

renewed-as : (p : Plan) (steps : List Step) (a : Account) (k : ℕ) (sets : List KeySet) (old new : Round) → RenewsRound p.config k sets old new → RoundStands p steps a old
    → RoundStands p steps (renewed p.config k sets a) new
renewed-as p steps a k sets old new does stands = subst (RoundStands p steps (renewed p.config k sets a)) (sym does.changed) (record {
  moment = stands.moment;
  groups = subst (λ (q : Publisher). HavePast p.config (metas_at p.config steps) a.deeds q.groups.items) (sym does.sender) stands.groups;
  senders = does.renewed_are p.config a.deeds stands.senders;
  outcomes = subst (λ (q : Publisher). HaveOutcomesOf p.config a.sent a.failing q.sends.items) (sym does.sender) stands.outcomes;
  sends = subst (λ (q : Publisher). AreSendsIn a.journal q.link) (sym does.sender) stands.sends;
  readings = does.rekeyed_are a.readings stands.readings;
  tallies = rekeyed-tallies p.config k (map keys_in sets) a.readings new.subscriber.tallies.items
      (subst (λ (x : Subscriber). HaveTallies p.config a.readings x.tallies.items) (sym does.groups) stands.tallies);
  receives = stands.receives;
  flags = λ c there. stands.flags c there ∙ flags-stay p.config steps k sets a c;
})

pub round-renewed : (config : Config) (k : ℕ) (sets : List KeySet) (old new : Round) → RenewsRound config k sets old new → RoundRenews config k sets old new
round-renewed config k sets old new does p steps a same stands = renewed-as p steps a k sets old new (subst (λ (c : Config). RenewsRound c k sets old new) same does) stands

-- ---- a tick

-- what is told is of this configuration and of these data sets
to-told : (P : Config → List MetaData → Type 0) (c d : Config) (m n : List MetaData) → c ≡ d → m ≡ n → P d n → P c m
to-told P c d m n same_config same_metas holds = subst (λ (x : Config). P x m) (sym same_config) (subst (λ (y : List MetaData). P d y) (sym same_metas) holds)

-- so a tick may come, where a turn is left
pub may-tick : (config : Config) (metas : List MetaData) (turns : ℕ) (told : Told) (round : Round) → told.config.now ≡ config → told.metas.now ≡ metas → IsGood config → HoldRound config round
    → ((g : ℕ) → g < length config.group → AreMetas config (group_at config g) metas) → AllZip (λ (meta : MetaData) (sampled : Sampled). Belongs meta sampled.row.words) metas told.rows.now
    → 1 ≤ turns → MayAllGoOn config metas turns round.publisher.groups.items → MayTickRound told round
may-tick config metas turns told round same_config same_metas good holds metas_are rows one goes = record {
  good = subst IsGood (sym same_config) good;
  holds = subst (λ (c : Config). HoldRound c round) (sym same_config) holds;
  metas_are = λ g low.
      to-told (λ (c : Config) (m : List MetaData). AreMetas c (group_at c g) m) told.config.now config told.metas.now metas same_config same_metas
      (metas_are g (subst (λ (c : Config). g < length c.group) same_config low));
  rows_are = subst (λ (m : List MetaData). AllZip (λ (meta : MetaData) (sampled : Sampled). Belongs meta sampled.row.words) m told.rows.now) (sym same_metas) rows;
  goes_on = to-told (λ (c : Config) (m : List MetaData). MayAllGoOn c m 1 round.publisher.groups.items) told.config.now config told.metas.now metas same_config same_metas
      (go-one config metas turns round.publisher.groups.items one goes);
}

-- and behind it each group may go on for all but one of the turns that it could before
pub goes-on : (config : Config) (metas : List MetaData) (told : Told) (old new : Publisher) → told.config.now ≡ config → told.metas.now ≡ metas → AllGoOnAfter told old new
    → (turns : ℕ) → MayAllGoOn config metas (turns + 1) old.groups.items → MayAllGoOn config metas turns new.groups.items
goes-on config metas told old new same_config same_metas goes turns may =
    to-told (λ (c : Config) (m : List MetaData). MayAllGoOn c m turns new.groups.items) config told.config.now metas told.metas.now (sym same_config) (sym same_metas)
    (goes turns (to-told (λ (c : Config) (m : List MetaData). MayAllGoOn c m (turns + 1) old.groups.items) told.config.now config told.metas.now metas same_config same_metas may))

parts-stand : (t : TickData) (old : Round) → RoundStands t.plan t.before t.account old → PartsStand t old.publisher old.subscriber old.tree
parts-stand t old stands = record {
  past = stands.groups;
  sent = stands.senders;
  outcomes = stands.outcomes;
  link = stands.sends;
  read = stands.readings;
  flags = stands.flags;
}

-- once it began
pub round-begun : (told : Told) (old : Round) (come cleared : Publisher) (subscriber : Subscriber) (tree new : TreeValue) → IsGood told.config.now → HoldRound told.config.now old
    → Begins told.config.now told.moment old.publisher come cleared old.subscriber subscriber old.tree tree new
    → (t : TickData) → IsToldOf t told → RoundStands t.plan t.before t.account old → IsAt t (begun t) [] cleared new
round-begun told old come cleared subscriber tree new good holds does t is stands =
    begun-at t old.publisher come cleared old.subscriber subscriber old.tree tree new (subst IsGood is.config good) held.publisher held.subscriber held.tree (parts-stand t old stands)
    (subst (λ (m : ℕ). Begins t.plan.config m old.publisher come cleared old.subscriber subscriber old.tree tree new) is.moment
    (subst (λ (c : Config). Begins c told.moment old.publisher come cleared old.subscriber subscriber old.tree tree new) is.config does))
  where
    held : HoldRound t.plan.config old
    held = subst (λ (c : Config). HoldRound c old) is.config holds

-- timers expired
pub round-read : (told : Told) (old : Round) (subscriber : Subscriber) → HoldRound told.config.now old → HaveExpired told.moment old.subscriber subscriber
    → (t : TickData) (done : List Bool) → IsToldOf t told → RoundStands t.plan t.before t.account old → HaveReadings t.plan.config (readings_in t done) subscriber.groups.items
round-read told old subscriber holds read t done is stands =
    subst (λ (m : ℕ). HaveReadAll t.plan.config t.account.readings (λ r. Expired m ∷ []) subscriber.groups.items) is.moment
    (read t.plan.config t.account.readings (λ r. []) (subst (λ (c : Config). HoldSubscriber c old.subscriber) is.config holds.subscriber) stands.readings)

-- the groups had their parts
pub round-ticked : (t : TickData) (told : Told) (old mid new : Round) (link after : Option LinkState) → IsToldOf t told → RoundBegun told old mid
    → new ≡ record mid { publisher = new.publisher; tree = new.tree } → HasPassed t (length told.config.now.group) new.publisher new.tree link after
    → RoundStands t.plan t.before t.account old → RoundTicked t new link after
round-ticked t told old mid new link after is begun rest passed stands = record {
  done = whole.done;
  run = whole.at.sent;
  turns = λ g low. whole.holds g low;
  stands = record {
    moment = ap (λ (x : Round). x.moment) rest ∙ begun.moment ∙ is.moment;
    groups = at.groups;
    senders = at.senders;
    outcomes = at.outcomes;
    sends = at.link;
    readings = subst (λ (x : Round). HaveReadings t.plan.config (readings_in t whole.done) x.subscriber.groups.items) (sym rest) (begun.read t whole.done is stands);
    tallies = subst (λ (l : Vec Tally Global). HaveTallies t.plan.config t.account.readings l.items) (sym tallied) stands.tallies;
    receives = subst (λ (x : Receiving). AreReceivesIn (account_after t whole.done).journal (Tick t.ms t.closing t.samples whole.done ∷ t.before) x) (sym received)
        (receives-stay t.plan t.before t.account t.ms t.closing t.samples whole.done old.receiving stands.receives);
    flags = flags-end t whole.done new.tree at.flags;
  };
  tells = whole.tells;
}
  where
    whole : HasPassed t (length t.plan.config.group) new.publisher new.tree link after
    whole = subst (λ (c : Config). HasPassed t (length c.group) new.publisher new.tree link after) is.config passed

    at : IsAt t (account_after t whole.done).deeds whole.done new.publisher new.tree
    at = whole.at

    tallied : new.subscriber.tallies ≡ old.subscriber.tallies
    tallied = ap (λ (x : Round). x.subscriber.tallies) rest ∙ begun.tallied

    received : new.receiving ≡ old.receiving
    received = ap (λ (x : Round). x.receiving) rest ∙ begun.received

-- ---- a pump

-- what it took is handed on, and the tree is told of readers
pub record PumpsRound (config : Config) (taken : ℕ) (old new : Round) (link after : Option LinkState) : Type 0 where
  pub changed : new ≡ record old { tree = new.tree; subscriber = new.subscriber; receiving = new.receiving }
  pub counts : old.tree.counts ≡ counts_of config
  pub kept : new.tree.counts ≡ old.tree.counts
  pub pumps : PumpsTo config old.tree old.moment taken old.receiving new.receiving old.subscriber new.subscriber link after
  pub told : TellsReaders config new.subscriber old.tree new.tree

pumped-as : (p : Plan) (before : List Step) (a : Account) (taken : ℕ) (old new : Round) (link after : Option LinkState) → PumpsRound p.config taken old new link after → RoundStands p before a old
    → RoundPumped p before a taken new link after
pumped-as p before a taken old new link after does stands = record {
  entries = entries;
  run = does.pumps.pumps.pump;
  taken_are = does.pumps.taken_are;
  stands = record {
    moment = ap (λ (x : Round). x.moment) does.changed ∙ stands.moment;
    groups = subst (λ (x : Round). HavePast p.config (metas_at p.config before) a.deeds x.publisher.groups.items) (sym does.changed) stands.groups;
    senders = subst (λ (x : Round). HaveSent p.config a.deeds x.publisher.senders.items) (sym does.changed) stands.senders;
    outcomes = subst (λ (x : Round). HaveOutcomesOf p.config a.sent a.failing x.publisher.sends.items) (sym does.changed) stands.outcomes;
    sends = subst (λ (x : Round). AreSendsIn (a.journal ++ entries) x.publisher.link) (sym does.changed)
        (sends-pumped a.journal entries old.publisher.link (pump_sends most_taken entries does.pumps.pumps.pump) stands.sends);
    readings = got.readings;
    tallies = got.tallies;
    receives = receives-pumped p before a entries old.receiving new.receiving old.subscriber new.subscriber old.tree old.moment does.pumps.pumps stands.receives;
    flags = flags-pumped p before a entries new.subscriber old.tree new.tree does.kept got.readings does.told stands.flags;
  };
  tells = tells-pumped a.journal entries link after does.pumps.tells;
}
  where
    entries : List Entry
    entries = does.pumps.entries

    got : HaveGot p.config a.readings (λ r. got_all p.config before r does.pumps.entries []) new.subscriber
    got = does.pumps.pumps.hands_on before a.readings (λ r. []) (switches p before a old.tree does.counts stands.flags) stands.moment (record { readings = stands.readings; tallies = stands.tallies })

pub round-pumped : (config : Config) (taken : ℕ) (old new : Round) (link after : Option LinkState) → PumpsRound config taken old new link after → RoundPumps config taken old new link after
round-pumped config taken old new link after does p before a same stands =
    pumped-as p before a taken old new link after (subst (λ (c : Config). PumpsRound c taken old new link after) same does) stands

-- ---- the states

-- behind steps alone
pub flags-behind : (p : Plan) (steps : List Step) (round : Round) → RoundStands p steps (account_of p steps) round → HasFlags (flags_at p steps) round.tree
flags-behind p steps round stands c there = stands.flags c there ∙ sym (flags-as p steps c)
