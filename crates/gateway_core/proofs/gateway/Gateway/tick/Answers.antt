use Rattle.std.proofs.Common.{◌+◌, ◌-◌, ◌≤◌, List, map, refl, sym, ap, subst, arith}
use Rattle.writer_group.specs.declared.sampled.Sampled.{Sampled}
use Rattle.session_model.specs.Lives.{Stepped, account_in, steps_in}
use Rattle.session_model.specs.Sets.{AreRowsOf}
use Rattle.session_model.specs.Steps.{Tick as SessionTick}
use Rattle.session_parts.specs.declared.publisher.Told.{Told}
use Rattle.session_parts.proofs.Rounds.{goes-on, may-tick}
use Rattle.gateway_core.specs.declared.collected.Collected.{Collected}
use Rattle.gateway_core.specs.declared.gateway.Gateway.{Gateway}
use Rattle.gateway_core.specs.Lived.{Tick, plan_again, samples_after, session_steps}
use Rattle.gateway_core.specs.Holding.{sampled_by, sources_of}
use Rattle.gateway_core.specs.Standing.{steps_of}
use Rattle.gateway_core.proofs.Lives.{lives-ticked}
use Rattle.gateway_core.proofs.TickEnd.{DoesTick, TellsOf, metas-of, tick_of, ticked-gateway, ticked-keeps, ticked-lives, told-of}
use Rattle.gateway_core.proofs.TicksLeft.{moment-fits, one-left}
use Rattle.gateway_core.proofs.Unrenewed.{halts-back, leads-back, stands-in}
use Rattle.gateway_core.proofs.gateway.Gateway.tick.Given.{Over}
use Rattle.gateway_core.proofs.gateway.Gateway.tick.Goals as goal

-- ---- before the round's tick

pub overflow_sub-self : goal.overflow_sub-self
overflow_sub-self g c = one-left c.args.ms c.args.closing c.args.self.now c.requires.may

pub overflow_add-self : goal.overflow_add-self
overflow_add-self g c = let one : 1 ≤ c.args.self.now.left.ticks = one-left c.args.ms c.args.closing c.args.self.now c.requires.may in omega (arith, one, c.requires.may.gateway.calls)

pub overflow_add-moment : goal.overflow_add-moment
overflow_add-moment g c = let fits = moment-fits c.args.ms c.args.closing c.args.self.now c.requires.may in omega (arith, fits)

pub tick-requires-clause-may : goal.tick-requires-clause-may
tick-requires-clause-may g c =
    let s = c.args.self.now in
    let gateway = c.requires.may.gateway in
    let told : Told = record { config = s.config; metas = c.as_slice.result; rows = c.deref.result; moment = s.round.moment + c.args.ms; closing = c.args.closing } in
    may-tick s.config.now s.config.now.dataset s.left.ticks told s.round refl c.as_slice.ensures gateway.good gateway.round (λ group low. metas-of s.config.now group gateway.good low)
    (subst (λ (rows : List Sampled). AreRowsOf s.config.now.dataset rows) (sym c.deref.ensures.value) gateway.collected.rows) (one-left c.args.ms c.args.closing s c.requires.may) gateway.goes_on

-- ---- behind it

-- what the groups were told
abbrev given : (g : Over) → goal.After-tick g → Told
given g c = record {
  config = c.args.self.now.config;
  metas = c.as_slice.result;
  rows = c.deref.result;
  moment = c.args.self.now.round.moment + c.args.ms;
  closing = c.args.closing;
}

tells : (g : Over) (c : goal.After-tick g) → TellsOf c.args.ms c.args.closing c.args.self.now (given g c)
tells g c = record { config = refl; metas = c.as_slice.ensures; rows = c.deref.ensures.value; moment = refl; closing_is = refl }

-- the gateway then
abbrev after : (g : Over) → goal.After-tick g → Gateway
after g c = record c.args.self.now {
  left = record c.args.self.now.left { ticks = c.args.self.now.left.ticks - 1; pumps = c.args.self.now.left.pumps + 1; is_closed = c.args.closing };
  round = c.tick.new.self;
}

does : (g : Over) (c : goal.After-tick g) → DoesTick c.args.ms c.args.closing c.args.self.now (after g c)
does g c =
    let old = c.args.self.now in
    record {
      changed = refl;
      left = record { turns = refl; ticks = omega (arith, one-left c.args.ms c.args.closing old c.requires.may); pumps = refl; collects = refl; is_closed = refl };
      holds = c.tick.ensures.holds;
      moment = c.tick.ensures.moment;
      goes_on = goes-on old.config.now old.config.now.dataset (given g c) old.round.publisher c.tick.new.self.publisher refl c.as_slice.ensures c.tick.ensures.goes_on;
      logs = c.tick.ensures.logs;
    }

pub returns-clause-gateway : goal.returns-clause-gateway
returns-clause-gateway g c = ticked-gateway c.args.ms c.args.closing c.args.self.now (after g c) c.requires.may (does g c)

pub returns-clause-left : goal.returns-clause-left
returns-clause-left g c = (does g c).left

pub returns-clause-collected : goal.returns-clause-collected
returns-clause-collected g c = ticked-keeps c.args.ms c.args.closing c.args.self.now (after g c) (does g c)

pub returns-clause-lives : goal.returns-clause-lives
returns-clause-lives g c =
    λ is_done second lived life stands.
    let old = c.args.self.now in
    let link = g.L.Link.told c.args.link.now in
    let later = g.L.Link.told c.tick.new.link in
    let leads =
    ticked-lives (plan_again second) life c.args.ms c.args.closing (given g c) old (after g c) link later c.requires.may (does g c) (tells g c) (c.tick.ensures.ticked is_done) stands.session in (
      leads.0,
      lives-ticked second lived life c.args.ms c.args.closing leads.0 old (after g c) link later
          (ticked-keeps c.args.ms c.args.closing old (after g c) (does g c)) (does g c).left stands leads.1,
    )

pub returns-clause-leads : goal.returns-clause-leads
returns-clause-leads g c =
    λ is_done second lived stands.
    let old = c.args.self.now in
    let steps = steps_of old lived in
    let leads = returns-clause-lives g c is_done second lived (map Stepped steps) (stands-in second lived old stands) in
    let keeps = ticked-keeps c.args.ms c.args.closing old (after g c) (does g c) in (
      leads.0,
      leads-back second lived steps (Tick c.args.ms c.args.closing leads.0) (SessionTick c.args.ms c.args.closing (sampled_by old) leads.0)
          (g.L.Link.told c.args.link.now) (g.L.Link.told c.tick.new.link) (after g c)
          (ap (λ (x : Collected). session_steps x.sources.items lived) (sym keeps)) leads.1,
    )

pub returns-clause-halted_lives : goal.returns-clause-halted_lives
returns-clause-halted_lives g c =
    λ no_memory second lived life stands.
    let old = c.args.self.now in
    let p = plan_again second in
    c.tick.ensures.halted no_memory (tick_of p (steps_in life) (account_in p life) c.args.ms c.args.closing old)
    (told-of c.args.ms c.args.closing old (given g c) c.requires.may (tells g c) p (steps_in life) (account_in p life) stands.session.parts) stands.session.parts.round

pub returns-clause-halted : goal.returns-clause-halted
returns-clause-halted g c =
    λ no_memory second lived stands.
    let old = c.args.self.now in
    let steps = steps_of old lived in
    halts-back (plan_again second) steps c.args.ms c.args.closing (sampled_by old) (samples_after (sources_of old) lived) (g.L.Link.told c.args.link.now) (g.L.Link.told c.tick.new.link)
    stands.samples (returns-clause-halted_lives g c no_memory second lived (map Stepped steps) (stands-in second lived old stands))
