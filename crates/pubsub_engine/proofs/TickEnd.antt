-- A tick: what the groups are told of it, and where it leaves the session.
use Rattle.std.proofs.Common.{◌≡◌, refl, sym, ap, ◌∙◌, subst, arith, ℕ, ◌+◌, ◌-◌, ◌<◌, ◌≤◌, Bool, true, false, List, ◌∷◌, length, Option}
use Rattle.std.specs.Prelude.{◌||◌}
use Rattle.std.specs.List.{AllZip}
use Rattle.std.proofs.lemmas.Slice.Zip.{AllZip-long}
use Rattle.dataset_meta.specs.Metas.{HasGrown, MetaData}
use Rattle.row_words.specs.Belonging.{Belongs}
use Rattle.ua_base.specs.Journal.{LinkState}
use Rattle.writer_group.specs.declared.sampled.Sampled.{Sampled}
use Rattle.session_model.specs.Counts.{is_closed, ticks_in}
use Rattle.session_model.specs.Steps.{Plan, Step, Tick}
use Rattle.session_model.specs.Sets.{AreRowsOf, metas_at, rows_cut}
use Rattle.session_model.specs.Keeping.{AreStepsOf, MayComeOf}
use Rattle.session_model.specs.Lives.{Account, IsRunOn, Lived, TurnsHoldOn, account_in, account_of, stepped, steps_in}
use Rattle.session_model.specs.Sends.{TellsJournal}
use Rattle.session_parts.specs.declared.publisher.Told.{Told}
use Rattle.session_parts.specs.Holding.{AreAllLogged, AreStillLogged, MayAllGoOn}
use Rattle.session_parts.specs.Rounds.{HoldRound, RoundTicked, RoundTicks}
use Rattle.session_parts.specs.Ticking.{IsToldOf, TickData}
use Rattle.session_parts.proofs.Ended.{or-none}
use Rattle.pubsub_engine.specs.declared.sampling.Samples.{Samples}
use Rattle.pubsub_engine.specs.declared.session.Session.{Session}
use Rattle.pubsub_engine.specs.Holding.{CountsTick, HoldSamples, IsSession, KeepsPasses, MayTick, ticks_needed, ticks_of}
use Rattle.pubsub_engine.specs.Standing.{Leads, Stands}
use Rattle.pubsub_engine.specs.Living.{LeadsIn, StandsAs, StandsIn}
use Rattle.pubsub_engine.proofs.Lives.{stands-of}
use Rattle.pubsub_engine.proofs.NowSets.{now-sets}

-- ---- what the groups are told

-- a tick of a session
abbrev pub tick_of : Plan → List Step → Account → ℕ → Bool → Session → TickData
tick_of p before a ms closing s =
    record { plan = p; before = before; account = a; ms = ms; closing = closing; samples = s.samples.taken.items }

-- they are told of the session, with its last sample cut to the present data sets
pub record TellsOf (ms : ℕ) (closing : Bool) (s : Session) (told : Told) : Type 0 where
  pub config : told.config.now ≡ s.config.now
  pub metas : told.metas.now ≡ s.sets.metas.items
  pub rows : told.rows.now ≡ rows_cut s.sets.metas.items s.sets.full.items s.samples.taken.items
  pub moment : told.moment ≡ s.round.moment + ms
  pub closing_is : told.closing ≡ closing

pub told-of : (ms : ℕ) (closing : Bool) (s : Session) (told : Told) → TellsOf ms closing s told → (p : Plan) (before : List Step) (a : Account) → StandsAs p before a s
    → IsToldOf (tick_of p before a ms closing s) told
told-of ms closing s told is p before a stands = record {
  config = is.config ∙ ap (λ (q : Plan). q.config) stands.plan;
  metas = is.metas ∙ stands.metas;
  rows = is.rows
      ∙ ap (λ (m : List MetaData). rows_cut m s.sets.full.items s.samples.taken.items) stands.metas
      ∙ ap (λ (q : Plan). rows_cut (metas_at p.config before) q.full s.samples.taken.items) stands.plan;
  moment = is.moment ∙ ap (λ (m : ℕ). m + ms) stands.round.moment;
  closing = is.closing_is;
}

-- ---- the session

-- what a tick does to the parts of a session
pub record DoesTick (ms : ℕ) (closing : Bool) (old new : Session) : Type 0 where
  pub changed : new ≡ record old { left = new.left; samples = new.samples; round = new.round }
  pub left : CountsTick closing old.left new.left
  pub taken : new.samples ≡ record old.samples { cut = new.samples.cut }
  pub rows : AllZip (λ (meta : MetaData) (sampled : Sampled). Belongs meta sampled.row.words) old.sets.metas.items new.samples.cut.items
  pub holds : HoldRound old.config.now new.round
  pub moment : new.round.moment ≡ old.round.moment + ms
  pub goes_on : (turns : ℕ) → MayAllGoOn old.config.now old.sets.metas.items (turns + 1) old.round.publisher.groups.items
      → MayAllGoOn old.config.now old.sets.metas.items turns new.round.publisher.groups.items
  pub logs : AreStillLogged old.round.publisher.groups.items new.round.publisher.groups.items

pub ticked-session : (ms : ℕ) (closing : Bool) (old new : Session) → MayTick ms closing old → DoesTick ms closing old new → IsSession new
ticked-session ms closing old new may does = subst IsSession (sym does.changed) (record {
  good = session.good;
  sets = session.sets;
  samples = samples;
  round = does.holds;
  goes_on = does.goes_on new.left.ticks (subst (λ (n : ℕ). MayAllGoOn old.config.now old.sets.metas.items n old.round.publisher.groups.items) (sym does.left.ticks) session.goes_on);
  logged = subst (λ (n : ℕ). AreAllLogged n new.round.publisher.groups.items) (sym does.left.logged) (does.logs old.left.logged session.logged);
  stores = record {
    count = session.stores.count;
    keepers = session.stores.keepers;
    room = λ k low. omega (arith, session.stores.room k low, does.left.ticks, does.left.pumps, does.left.stores);
  };
  time = omega (arith, session.time, does.left.ticks, may.short, does.moment);
  calls = omega (arith, session.calls, does.left.ticks, does.left.pumps);
})
  where
    session : IsSession old
    session = may.session

    samples : HoldSamples old.sets.full.items new.samples
    samples = record {
      rows = subst (λ (x : Samples). AreRowsOf old.sets.full.items x.taken.items) (sym does.taken) session.samples.rows;
      cut = omega (
        arith,
        new.samples.cut.ok.0,
        AllZip-long _ old.sets.metas.items new.samples.cut.items does.rows,
        AllZip-long HasGrown old.sets.metas.items old.sets.full.items (now-sets old.config.now old.sets session.sets).grow,
      );
      passes = ap (λ (x : Samples). length x.passes) does.taken ∙ session.samples.passes;
    }

pub ticked-keeps : (ms : ℕ) (closing : Bool) (old new : Session) → DoesTick ms closing old new → KeepsPasses old new
ticked-keeps ms closing old new does = subst (KeepsPasses old) (sym does.changed) (record {
  plan = refl;
  passes = ap (λ (x : Samples). x.passes) does.taken;
  sampled = ap (λ (x : Samples). x.taken) does.taken;
  keeper = refl;
  stores = does.left.stores;
  logged = does.left.logged;
})

-- ---- where it stands

-- the closing tick didn't come yet
not-closed : (p : Plan) (before : List Step) (a : Account) (ms : ℕ) (closing : Bool) (old : Session) → MayTick ms closing old → StandsAs p before a old → is_closed before ≡ false
not-closed p before a ms closing old may stands = sym stands.closed ∙ may.running

ticks-left : (closing : Bool) (before most left : ℕ) → before + left ≤ most + 1 → ticks_needed closing ≤ left → closing ≡ false → before < most
ticks-left true before most left all needed is = absurd (let apart : true ≡ false → ⊥ = λ same. cc in apart is)
ticks-left false before most left all needed is = omega (arith, all, needed)

may-come : (p : Plan) (before : List Step) (a : Account) (ms : ℕ) (closing : Bool) (old : Session) → MayTick ms closing old → StandsAs p before a old
    → MayComeOf (ticks_of old) p before ms closing old.samples.taken.items
may-come p before a ms closing old may stands = record {
  rows = subst (λ (q : Plan). AreRowsOf q.full old.samples.taken.items) stands.plan may.session.samples.rows;
  short = may.short;
  running = not-closed p before a ms closing old may stands;
  left = ticks-left closing (ticks_in before) (ticks_of old) old.left.ticks stands.ticks may.left;
  still = may.still;
}

-- where the groups' turns lead
pub record Ticks (p : Plan) (before : List Step) (a : Account) (ms : ℕ) (closing : Bool) (old new : Session) (told after : Option LinkState) : Type 0 where
  pub done : List Bool
  pub run : IsRunOn p before a (Tick ms closing old.samples.taken.items done)
  pub may : MayComeOf (ticks_of new) p before ms closing old.samples.taken.items
  pub kept : ticks_of new ≡ ticks_of old
  pub turns : TurnsHoldOn p before a (Tick ms closing old.samples.taken.items done)
  pub stands : StandsAs p (Tick ms closing old.samples.taken.items done ∷ before) (stepped p before a (Tick ms closing old.samples.taken.items done)) new
  pub tells : TellsJournal a.journal told → TellsJournal (stepped p before a (Tick ms closing old.samples.taken.items done)).journal after

pub ticked-as : (p : Plan) (before : List Step) (a : Account) (ms : ℕ) (closing : Bool) (told : Told) (old new : Session) (link after : Option LinkState) → MayTick ms closing old
    → DoesTick ms closing old new → TellsOf ms closing old told → RoundTicks told old.round new.round link after → StandsAs p before a old → Ticks p before a ms closing old new link after
ticked-as p before a ms closing told old new link after may does is ticks stands = record {
  done = ticked.done;
  run = ticked.run;
  may = subst (λ (m : ℕ). MayComeOf m p before ms closing old.samples.taken.items) (sym same) (may-come p before a ms closing old may stands);
  kept = same;
  turns = ticked.turns;
  stands = subst (StandsAs p (Tick ms closing old.samples.taken.items ticked.done ∷ before) (stepped p before a (Tick ms closing old.samples.taken.items ticked.done))) (sym does.changed) (record {
    plan = stands.plan;
    closed = does.left.is_closed ∙ sym (ap (λ (b : Bool). closing || b) (not-closed p before a ms closing old may stands) ∙ or-none closing);
    ticks = omega (arith, stands.ticks, does.left.ticks, does.left.stores);
    pumps = omega (arith, stands.pumps, does.left.pumps);
    metas = stands.metas;
    stores_are = stands.stores_are;
    round = ticked.stands;
  });
  tells = ticked.tells;
}
  where
    ticked : RoundTicked (tick_of p before a ms closing old) new.round link after
    ticked = ticks (tick_of p before a ms closing old) (told-of ms closing old told is p before a stands) stands.round

    same : ticks_of new ≡ ticks_of old
    same = ap (λ (n : ℕ). n - 1) does.left.stores

-- behind steps alone
pub ticked-leads : (p : Plan) (before : List Step) (ms : ℕ) (closing : Bool) (old s : Session) (told after : Option LinkState) → Stands p before old
    → Ticks p before (account_of p before) ms closing old s told after
    → (done : List Bool) × Leads p before (Tick ms closing old.samples.taken.items done) told after s
ticked-leads p before ms closing old s told after stands ticks = (
  ticks.done,
  record {
    stands = stands-of p (Tick ms closing old.samples.taken.items ticks.done ∷ before) s (ticks.run, stands.run)
        (ticks.may, subst (λ (m : ℕ). AreStepsOf m p before) (sym ticks.kept) stands.steps_are) (ticks.turns, stands.turns) ticks.stands;
    tells = ticks.tells;
  },
)

-- in a life
pub ticked-lives : (p : Plan) (life : List Lived) (ms : ℕ) (closing : Bool) (old s : Session) (told after : Option LinkState) → StandsIn p life old
    → Ticks p (steps_in life) (account_in p life) ms closing old s told after
    → (done : List Bool) × LeadsIn p life (Tick ms closing old.samples.taken.items done) told after s
ticked-lives p life ms closing old s told after stands ticks = (
  ticks.done,
  record {
    stands = record {
      run = (ticks.run, stands.run);
      steps_are = (ticks.may, subst (λ (m : ℕ). AreStepsOf m p (steps_in life)) (sym ticks.kept) stands.steps_are);
      turns = (ticks.turns, stands.turns);
      parts = ticks.stands;
    };
    tells = ticks.tells;
  },
)
