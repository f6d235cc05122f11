use Rattle.std.proofs.Common.{◌≡◌, ◌+◌, ◌<◌, ℕ, length, refl, ◌∙◌, subst, arith}
use Rattle.ps_config.specs.declared.parts.Config.{Config}
use Rattle.ua_base.proofs.Links.{KeepsLink-refl, KeepsLink-then, stays_open}
use Rattle.session_parts.specs.Ticking.{HasPassed}
use Rattle.session_parts.proofs.Ticks.{passed-none, passed-more, go-none, go-more, go-all}
use Rattle.session_parts.proofs.publisher.Publisher.pass_all.Goals as goal

pub loop-g-init : goal.loop-g-init
loop-g-init g c =
    let may = c.requires.may in
    record {
      holds = may.holds;
      counts = refl;
      spent = may.spent;
      goes_on = λ turns goes. go-none c.args.told.now.config.now c.args.told.now.metas.now turns (turns + 1) c.args.self.now.groups.items refl goes;
      logs = λ most all. all;
      link = KeepsLink-refl g.L.Link.told g.L.Link.patience g.L.Link.opened_with g.L.Link.faults g.L.Link.made g.L.Link.openings c.args.link.now;
      passed = λ t told at. passed-none t c.args.self.now c.args.tree.now (g.L.Link.told c.args.link.now) at;
    }

pub pass-requires-clause-open : goal.pass-requires-clause-open
pass-requires-clause-open g c = stays_open g.L.Link.told g.L.Link.patience g.L.Link.opened_with g.L.Link.faults g.L.Link.made g.L.Link.openings 0 c.args.link.now c.loop-g.link c.loop-g.invariant.link c.requires.open

pub pass-requires-clause-may : goal.pass-requires-clause-may
pass-requires-clause-may g c =
    let may = c.requires.may in
    let inv = c.loop-g.invariant in
    let low : c.loop-g.g < length c.args.told.now.config.now.group = omega (arith, c.loop-g-test.true, c.len-g-end.ensures, c.args.self.now.groups.ok.0, may.holds.groups.count) in
    record {
      good = may.good;
      within = low;
      holds = inv.holds;
      metas_are = may.metas_are c.loop-g.g low;
      rows_are = may.rows_are;
      goes_on = (inv.goes_on 0 may.goes_on).left c.loop-g.g (omega arith) low;
      counts_are = inv.counts ∙ may.counts_are;
      spent = inv.spent;
    }

pub loop-g-preserved : goal.loop-g-preserved
loop-g-preserved g c =
    let may = c.requires.may in
    let inv = c.loop-g.invariant in
    let e = c.in-Done.ensures in
    let told = c.args.told.now in
    let low : c.loop-g.g < length told.config.now.group = omega (arith, c.loop-g-test.true, c.len-g-end.ensures, c.args.self.now.groups.ok.0, may.holds.groups.count) in
    record {
      holds = e.holds;
      counts = e.tree ∙ inv.counts;
      spent = e.spent;
      goes_on = λ turns goes. go-more told.config.now told.metas.now turns c.loop-g.g c.loop-g.self.groups.items c.pass.new.self.groups.items low e.others e.goes_on (inv.goes_on turns goes);
      logs = λ most all. e.logs most (inv.logs most all);
      link = KeepsLink-then g.L.Link.told g.L.Link.patience g.L.Link.opened_with g.L.Link.faults g.L.Link.made g.L.Link.openings 0 0 c.args.link.now c.loop-g.link c.pass.new.link inv.link e.link;
      passed = λ t is at.
          let before = inv.passed t is at in
          passed-more t c.loop-g.g c.loop-g.self c.pass.new.self c.loop-g.tree c.pass.new.tree (g.L.Link.told c.args.link.now) (g.L.Link.told c.loop-g.link) (g.L.Link.told c.pass.new.link)
          before (e.passes refl t _ before.done is before.at before.none_failed);
    }

pub returns-in-Memory-clause-goes_on : goal.returns-in-Memory-clause-goes_on
returns-in-Memory-clause-goes_on g c =
    λ turns goes.
    let may = c.requires.may in
    let e = c.in-Memory.ensures in
    let told = c.args.told.now in
    let low : c.loop-g.g < length told.config.now.group = omega (arith, c.loop-g-test.true, c.len-g-end.ensures, c.args.self.now.groups.ok.0, may.holds.groups.count) in
    go-all told.config.now told.metas.now turns (c.loop-g.g + 1) c.pass.new.self.groups.items
    (go-more told.config.now told.metas.now turns c.loop-g.g c.loop-g.self.groups.items c.pass.new.self.groups.items low e.others e.goes_on (c.loop-g.invariant.goes_on turns goes))

pub returns-in-Memory-clause-logs : goal.returns-in-Memory-clause-logs
returns-in-Memory-clause-logs g c = λ most all. c.in-Memory.ensures.logs most (c.loop-g.invariant.logs most all)

pub returns-in-Memory-clause-link : goal.returns-in-Memory-clause-link
returns-in-Memory-clause-link g c =
    KeepsLink-then g.L.Link.told g.L.Link.patience g.L.Link.opened_with g.L.Link.faults g.L.Link.made g.L.Link.openings 0 0 c.args.link.now c.loop-g.link c.pass.new.link c.loop-g.invariant.link c.in-Memory.ensures.link

pub returns-clause-goes_on : goal.returns-clause-goes_on
returns-clause-goes_on g c =
    λ turns goes. go-all c.args.told.now.config.now c.args.told.now.metas.now turns c.loop-g.g c.loop-g.self.groups.items (c.loop-g.invariant.goes_on turns goes)

pub returns-clause-passed : goal.returns-clause-passed
returns-clause-passed g c =
    λ is_done t is at.
    let may = c.requires.may in
    let all : c.loop-g.g ≡ length c.args.told.now.config.now.group
    = omega (arith, c.loop-g-test.false, c.loop-g.auto.g-end, c.len-g-end.ensures, c.args.self.now.groups.ok.0, may.holds.groups.count) in
    subst (λ (n : ℕ). HasPassed t n c.loop-g.self c.loop-g.tree (g.L.Link.told c.args.link.now) (g.L.Link.told c.loop-g.link)) all (c.loop-g.invariant.passed t is at)

pub returns-in-Memory-clause-halted : goal.returns-in-Memory-clause-halted
returns-in-Memory-clause-halted g c =
    λ is_memory t is at.
    let may = c.requires.may in
    let before = c.loop-g.invariant.passed t is at in
    let low : c.loop-g.g < length c.args.told.now.config.now.group = omega (arith, c.loop-g-test.true, c.len-g-end.ensures, c.args.self.now.groups.ok.0, may.holds.groups.count) in
    record {
      group = c.loop-g.g;
      within = subst (λ (config : Config). c.loop-g.g < length config.group) is.config low;
      publisher = c.loop-g.self;
      tree = c.loop-g.tree;
      between = g.L.Link.told c.loop-g.link;
      passed = before;
      halts = c.in-Memory.ensures.halted refl t _ before.done is before.at before.none_failed;
    }
