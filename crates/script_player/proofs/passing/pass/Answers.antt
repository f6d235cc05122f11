use Rattle.std.proofs.Common.{refl, arith}
use Rattle.ua_base.proofs.Links.{KeepsLink-then, KeepsLink-more}
use Rattle.script_player.proofs.Turning.{AreTurns, bank-passes, passes-on, pump-may, targets-ticked, tick-may}
use Rattle.script_player.proofs.passing.pass.Goals as goal

pub tick-requires-clause-may : goal.tick-requires-clause-may
tick-requires-clause-may g c =
    tick-may c.args.ms c.args.closing c.args.session.now c.sample.new.self c.requires.may c.sample.ensures.session c.sample.ensures.rest

pub pump-requires-clause-may : goal.pump-requires-clause-may
pump-requires-clause-may g c = pump-may c.args.closing c.sample.new.self c.tick.new.self c.tick.ensures.session c.tick.ensures.left

pub pump-requires-clause-targets : goal.pump-requires-clause-targets
pump-requires-clause-targets g c =
    targets-ticked c.args.session.now c.sample.new.self c.tick.new.self c.args.targets.now c.requires.targets c.sample.ensures.rest c.tick.ensures.passes

pub returns : goal.returns
returns g c =
    let old = c.args.session.now in
    let told = g.L.Link.told c.args.link.now in
    let between = g.L.Link.told c.tick.new.link in
    let after = g.L.Link.told c.pump.new.link in
    let sampled = c.sample.new.self in
    let ticked = c.tick.new.self in
    let new = c.pump.new.self in
    let s = c.sample.ensures in
    let t = c.tick.ensures in
    let u = c.pump.ensures in
    let turns : AreTurns c.args.ms c.args.closing old sampled ticked new told between after = record {
      sample_is = s.sampled;
      more = s.more;
      lawful = s.lawful;
      changes = s.rest;
      stood = s.stands;
      counts = t.left;
      leads = c.in-Done.ensures.leads refl;
      keeps = t.passes;
      appends = t.appends;
      pumped = u.left;
      leads_on = λ p steps stands. let on = u.leads p steps stands in (on.0, on.1);
      passes = u.passes;
      plan = u.plan;
      appends_then = u.appends;
    } in
    record {
      session = u.session;
      bank = bank-passes c.args.ms c.args.closing old sampled ticked new told between after turns c.args.bank.now s.bank;
      targets = u.targets;
      passes = passes-on c.args.ms c.args.closing old sampled ticked new told between after turns;
      memory = tt;
      link = KeepsLink-then g.L.Link.told g.L.Link.patience g.L.Link.opened_with g.L.Link.faults g.L.Link.made g.L.Link.openings 0 1 c.args.link.now c.tick.new.link c.pump.new.link t.link u.link;
    }

pub returns-in-Memory-clause-link : goal.returns-in-Memory-clause-link
returns-in-Memory-clause-link g c =
    KeepsLink-more g.L.Link.told g.L.Link.patience g.L.Link.opened_with g.L.Link.faults g.L.Link.made g.L.Link.openings 0 1 c.args.link.now c.tick.new.link (omega arith) c.tick.ensures.link
