use Rattle.std.proofs.Common.{◌+◌, ◌-◌, ◌≤◌, List, refl, sym, ◌∙◌, subst, arith}
use Rattle.std.specs.List.{AllZip}
use Rattle.std.proofs.lemmas.Slice.Zip.{AllZip-long}
use Rattle.dataset_meta.specs.Metas.{MetaData}
use Rattle.row_words.specs.Belonging.{Belongs}
use Rattle.writer_group.specs.declared.sampled.Sampled.{Sampled}
use Rattle.session_model.specs.Lives.{account_in, account_of, steps_in}
use Rattle.session_parts.specs.declared.publisher.Told.{Told}
use Rattle.session_parts.proofs.Rounds.{goes-on, may-tick}
use Rattle.pubsub_engine.specs.declared.session.Session.{Session}
use Rattle.pubsub_engine.proofs.Lives.{as-stands}
use Rattle.pubsub_engine.proofs.NowSets.{metas-of, now-sets}
use Rattle.pubsub_engine.proofs.TickEnd.{DoesTick, TellsOf, tick_of, ticked-as, ticked-keeps, ticked-leads, ticked-lives, ticked-session, told-of}
use Rattle.pubsub_engine.proofs.TicksLeft.{moment-fits, one-left}
use Rattle.pubsub_engine.proofs.session.Session.tick.Given.{Over}
use Rattle.pubsub_engine.proofs.session.Session.tick.Goals as goal

-- ---- before the round's tick

pub overflow_sub-self : goal.overflow_sub-self
overflow_sub-self g c = one-left c.args.ms c.args.closing c.args.self.now c.requires.may

pub overflow_add-self : goal.overflow_add-self
overflow_add-self g c = let one : 1 ≤ c.args.self.now.left.ticks = one-left c.args.ms c.args.closing c.args.self.now c.requires.may in omega (arith, one, c.requires.may.session.calls)

pub overflow_add-moment : goal.overflow_add-moment
overflow_add-moment g c = let fits = moment-fits c.args.ms c.args.closing c.args.self.now c.requires.may in omega (arith, fits)

pub cut_to-requires-clause-few : goal.cut_to-requires-clause-few
cut_to-requires-clause-few g c =
    let session = c.requires.may.session in
    omega (arith, (now-sets c.args.self.now.config.now c.args.self.now.sets session.sets).count, session.good.sound.few.datasets, c.args.self.now.sets.metas.ok.0)

pub cut_to-requires-clause-count : goal.cut_to-requires-clause-count
cut_to-requires-clause-count g c =
    let session = c.requires.may.session in
    let sets = c.args.self.now.sets in
    omega (arith, session.samples.cut, sets.metas.ok.0, AllZip-long _ sets.metas.items sets.full.items (now-sets c.args.self.now.config.now sets session.sets).grow)

pub cut_to-requires-clause-grow : goal.cut_to-requires-clause-grow
cut_to-requires-clause-grow g c = (now-sets c.args.self.now.config.now c.args.self.now.sets c.requires.may.session.sets).grow

pub tick-requires-clause-may : goal.tick-requires-clause-may
tick-requires-clause-may g c =
    let s = c.args.self.now in
    let session = c.requires.may.session in
    let told : Told = record { config = s.config; metas = c.deref.result; rows = c.deref-2.result; moment = s.round.moment + c.args.ms; closing = c.args.closing } in
    may-tick s.config.now s.sets.metas.items s.left.ticks told s.round refl c.deref.ensures.value session.good session.round
    (λ group low. metas-of s.config.now s.sets.full.items s.sets.metas.items group (now-sets s.config.now s.sets session.sets) low)
    (subst (λ (rows : List Sampled). AllZip (λ (meta : MetaData) (sampled : Sampled). Belongs meta sampled.row.words) s.sets.metas.items rows) (sym c.deref-2.ensures.value) c.cut_to.ensures.belong)
    (one-left c.args.ms c.args.closing s c.requires.may) session.goes_on

-- ---- behind it

-- what the groups were told
abbrev given : (g : Over) → goal.After-tick g → Told
given g c = record {
  config = c.args.self.now.config;
  metas = c.deref.result;
  rows = c.deref-2.result;
  moment = c.args.self.now.round.moment + c.args.ms;
  closing = c.args.closing;
}

tells : (g : Over) (c : goal.After-tick g) → TellsOf c.args.ms c.args.closing c.args.self.now (given g c)
tells g c = record {
  config = refl;
  metas = c.deref.ensures.value;
  rows = c.deref-2.ensures.value ∙ c.cut_to.ensures.cut;
  moment = refl;
  closing_is = refl;
}

-- the session then
abbrev after : (g : Over) → goal.After-tick g → Session
after g c = record c.args.self.now {
  left = record c.args.self.now.left { ticks = c.args.self.now.left.ticks - 1; pumps = c.args.self.now.left.pumps + 1; is_closed = c.args.closing };
  samples = c.cut_to.new.self;
  round = c.tick.new.self;
}

does : (g : Over) (c : goal.After-tick g) → DoesTick c.args.ms c.args.closing c.args.self.now (after g c)
does g c =
    let old = c.args.self.now in
    record {
      changed = refl;
      left = record { ticks = omega (arith, one-left c.args.ms c.args.closing old c.requires.may); pumps = refl; stores = refl; logged = refl; is_closed = refl };
      taken = c.cut_to.ensures.rest;
      rows = c.cut_to.ensures.belong;
      holds = c.tick.ensures.holds;
      moment = c.tick.ensures.moment;
      goes_on = goes-on old.config.now old.sets.metas.items (given g c) old.round.publisher c.tick.new.self.publisher refl c.deref.ensures.value c.tick.ensures.goes_on;
      logs = c.tick.ensures.logs;
    }

pub returns-clause-session : goal.returns-clause-session
returns-clause-session g c = ticked-session c.args.ms c.args.closing c.args.self.now (after g c) c.requires.may (does g c)

pub returns-clause-left : goal.returns-clause-left
returns-clause-left g c = (does g c).left

pub returns-clause-passes : goal.returns-clause-passes
returns-clause-passes g c = ticked-keeps c.args.ms c.args.closing c.args.self.now (after g c) (does g c)

pub returns-clause-leads : goal.returns-clause-leads
returns-clause-leads g c =
    λ is_done p before stands.
    let old = c.args.self.now in
    ticked-leads p before c.args.ms c.args.closing old (after g c) (g.L.Link.told c.args.link.now) (g.L.Link.told c.tick.new.link) stands
    (ticked-as p before (account_of p before) c.args.ms c.args.closing (given g c) old (after g c) (g.L.Link.told c.args.link.now) (g.L.Link.told c.tick.new.link) c.requires.may (does g c) (tells g c)
    (c.tick.ensures.ticked is_done) (as-stands p before old stands))

pub returns-clause-lives : goal.returns-clause-lives
returns-clause-lives g c =
    λ is_done p life stands.
    let old = c.args.self.now in
    ticked-lives p life c.args.ms c.args.closing old (after g c) (g.L.Link.told c.args.link.now) (g.L.Link.told c.tick.new.link) stands
    (ticked-as p (steps_in life) (account_in p life) c.args.ms c.args.closing (given g c) old (after g c) (g.L.Link.told c.args.link.now) (g.L.Link.told c.tick.new.link) c.requires.may (does g c)
    (tells g c) (c.tick.ensures.ticked is_done) stands.parts)

pub returns-clause-halted : goal.returns-clause-halted
returns-clause-halted g c =
    λ no_memory p before stands.
    let old = c.args.self.now in
    let at = as-stands p before old stands in
    c.tick.ensures.halted no_memory (tick_of p before (account_of p before) c.args.ms c.args.closing old) (told-of c.args.ms c.args.closing old (given g c) (tells g c) p before (account_of p before) at)
    at.round

pub returns-clause-halted_lives : goal.returns-clause-halted_lives
returns-clause-halted_lives g c =
    λ no_memory p life stands.
    let old = c.args.self.now in
    c.tick.ensures.halted no_memory (tick_of p (steps_in life) (account_in p life) c.args.ms c.args.closing old)
    (told-of c.args.ms c.args.closing old (given g c) (tells g c) p (steps_in life) (account_in p life) stands.parts) stands.parts.round
