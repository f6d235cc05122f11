-- What a session and a gateway alike go round with: what holds of it between its calls, where it stands after what it lived through, and where its calls lead.
use Rattle.std.specs.Prelude.{◌≡◌, ℕ, ◌<◌, List, [], ◌∷◌, ◌++◌, length, count_by, Bool, Option}
use Rattle.std.specs.List.{AllZip}
use Rattle.dataset_meta.specs.Metas.{MetaData}
use Rattle.row_words.specs.Belonging.{Belongs}
use Rattle.group_keys.specs.declared.key_set.KeySet.{KeySet}
use Rattle.ua_base.specs.Journal.{Entry, LinkState}
use Rattle.ps_config.specs.declared.parts.Config.{Config}
use Rattle.pubsub_states.specs.Components.{counts_of}
use Rattle.writer_group.specs.Parts.{group_at}
use Rattle.writer_group.specs.Standing.{AreMetas, IsGood}
use Rattle.session_model.specs.Closing.{is_datagram}
use Rattle.session_model.specs.Counts.{most_taken}
use Rattle.session_model.specs.Steps.{Plan, Step, Pump, Tick, moment_of}
use Rattle.session_model.specs.Sends.{IsPump, TellsJournal}
use Rattle.session_model.specs.Sets.{metas_at}
use Rattle.session_model.specs.Lives.{Account, IsRunOn, TurnsHoldOn, account_of, flags_by, renewed, stepped}
use Rattle.session_parts.specs.declared.publisher.Told.{Told}
use Rattle.session_parts.specs.declared.round.Round.{Round}
use Rattle.session_parts.specs.Holding.{AreStillLogged, HasBuffers, HoldPublisher, HoldSubscriber, MayAllGoOn}
use Rattle.session_parts.specs.Refreshed.{AllGoOn}
use Rattle.session_parts.specs.Standing.{AreReceivesIn, AreSendsIn, HasFlags, HaveOutcomesOf, HavePast, HaveReadings, HaveSent, HaveTallies}
use Rattle.session_parts.specs.Ticking.{HaltsTickBehind, IsAt, IsToldOf, KnowsSpent, TickData, account_after, begun, readings_in}

-- ---- between its calls

-- what holds of it, whatever it lived through
pub record HoldRound (config : Config) (round : Round) : Type 0 where
  pub publisher : HoldPublisher config round.publisher
  pub subscriber : HoldSubscriber config round.subscriber
  pub tree : round.tree.counts ≡ counts_of config
  pub buffers : HasBuffers round.receiving

-- it is as these steps, of which this became, leave it
pub record RoundStands (p : Plan) (steps : List Step) (a : Account) (round : Round) : Type 0 where
  pub moment : round.moment ≡ moment_of steps
  pub groups : HavePast p.config (metas_at p.config steps) a.deeds round.publisher.groups.items
  pub senders : HaveSent p.config a.deeds round.publisher.senders.items
  pub outcomes : HaveOutcomesOf p.config a.sent a.failing round.publisher.sends.items
  pub sends : AreSendsIn a.journal round.publisher.link
  pub readings : HaveReadings p.config a.readings round.subscriber.groups.items
  pub tallies : HaveTallies p.config a.readings round.subscriber.tallies.items
  pub receives : AreReceivesIn a.journal steps round.receiving
  pub flags : HasFlags (flags_by p.config steps a) round.tree

-- no step was, where the data sets grow to these
abbrev pub IsUnstepped : Config → List MetaData → Round → Type 0
IsUnstepped config full round =
    RoundStands (record { config = config; full = full }) [] (account_of (record { config = config; full = full }) []) round

-- ---- a tick

-- a tick of which this is given may come
pub record MayTickRound (told : Told) (round : Round) : Type 0 where
  pub good : IsGood told.config.now
  pub holds : HoldRound told.config.now round
  pub metas_are : (g : ℕ) → g < length told.config.now.group → AreMetas told.config.now (group_at told.config.now g) told.metas.now
  pub rows_are : AllZip (λ meta sampled. Belongs meta sampled.row.words) told.metas.now told.rows.now
  pub goes_on : MayAllGoOn told.config.now told.metas.now 1 round.publisher.groups.items

-- time came to the given moment, and with it senders and timers; no group had its turn
pub record RoundBegun (told : Told) (old new : Round) : Type 0 where
  pub moment : new.moment ≡ told.moment
  pub received : new.receiving ≡ old.receiving
  pub tallied : new.subscriber.tallies ≡ old.subscriber.tallies
  pub spent : KnowsSpent told.config.now new.publisher.senders.items new.tree
  pub goes_on : AllGoOn told.config.now old.publisher.groups.items new.publisher.groups.items
  pub logs : AreStillLogged old.publisher.groups.items new.publisher.groups.items
  pub sent : (t : TickData) → IsToldOf t told → RoundStands t.plan t.before t.account old → IsAt t (begun t) [] new.publisher new.tree
  pub read : (t : TickData) (done : List Bool) → IsToldOf t told → RoundStands t.plan t.before t.account old
      → HaveReadings t.plan.config (readings_in t done) new.subscriber.groups.items

-- where the tick leads, and what the link tells: it is then the journal, if it was before
pub record RoundTicked (t : TickData) (new : Round) (link after : Option LinkState) : Type 0 where
  pub done : List Bool
  pub run : IsRunOn t.plan t.before t.account (Tick t.ms t.closing t.samples done)
  pub turns : TurnsHoldOn t.plan t.before t.account (Tick t.ms t.closing t.samples done)
  pub stands : RoundStands t.plan (Tick t.ms t.closing t.samples done ∷ t.before) (account_after t done) new
  pub tells : TellsJournal t.account.journal link → TellsJournal (account_after t done).journal after

-- wherever it stood, the tick leads on
abbrev pub RoundTicks : Told → Round → Round → Option LinkState → Option LinkState → Type 0
RoundTicks told old new link after =
    (t : TickData) → IsToldOf t told → RoundStands t.plan t.before t.account old → RoundTicked t new link after

-- wherever it stood, memory ran out at a send of the tick
abbrev pub RoundHalts : Told → Round → Option LinkState → Option LinkState → Type 0
RoundHalts told old link after =
    (t : TickData) → IsToldOf t told → RoundStands t.plan t.before t.account old
    → HaltsTickBehind t.plan t.before t.account t.ms t.closing t.samples link after

-- ---- a pump

-- where a pump that took so many datagrams leads, and what the link tells: it is then the journal, if it was before
pub record RoundPumped (p : Plan) (before : List Step) (a : Account) (taken : ℕ) (new : Round) (link after : Option LinkState) : Type 0 where
  pub entries : List Entry
  pub run : IsPump most_taken entries
  pub taken_are : taken ≡ count_by is_datagram entries
  pub stands : RoundStands p (Pump entries ∷ before) (stepped p before a (Pump entries)) new
  pub tells : TellsJournal a.journal link → TellsJournal (a.journal ++ entries) after

-- wherever it stood, the pump leads on
abbrev pub RoundPumps : Config → ℕ → Round → Round → Option LinkState → Option LinkState → Type 0
RoundPumps config taken old new link after =
    (p : Plan) (before : List Step) (a : Account) → config ≡ p.config → RoundStands p before a old → RoundPumped p before a taken new link after

-- ---- a ring

-- wherever it stood, a ring with these sets for the key group leads on
abbrev pub RoundRenews : Config → ℕ → List KeySet → Round → Round → Type 0
RoundRenews config k sets old new =
    (p : Plan) (steps : List Step) (a : Account) → config ≡ p.config → RoundStands p steps a old → RoundStands p steps (renewed p.config k sets a) new
