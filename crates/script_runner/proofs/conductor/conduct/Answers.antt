use Rattle.std.proofs.Common.{◌≤◌, ◌+◌, ℕ, List, length, take, get_or, refl, ap, ◌∙◌, arith}
use Rattle.ps_script.specs.declared.script.Line.{Line}
use Rattle.ps_script.specs.Sessions.{ticks_in}
use Rattle.ua_base.proofs.Links.{KeepsLink-refl, KeepsLink-then, KeepsLink-more, stays_open}
use Rattle.pubsub_engine.specs.Holding.{plan_of}
use Rattle.script_player.specs.Passing.{nothings_by}
use Rattle.script_player.proofs.Next.{no_line}
use Rattle.script_player.proofs.Ticks.{nothings-next, nothings-within, ticks-more, ticks-within}
use Rattle.script_runner.proofs.Conducted.{all-run, next-may, next-run}
use Rattle.script_runner.proofs.conductor.conduct.Goals as goal

pub loop-line-init : goal.loop-line-init
loop-line-init g c = record {
  session = c.requires.session;
  bank = c.requires.bank;
  targets = c.requires.targets;
  ticks = refl;
  conducted = c.requires.begun;
  link = KeepsLink-refl g.L.Link.told g.L.Link.patience g.L.Link.opened_with g.L.Link.faults g.L.Link.made g.L.Link.openings c.args.link.now;
}

pub conduct_line-requires-clause-open : goal.conduct_line-requires-clause-open
conduct_line-requires-clause-open g c κs within =
    stays_open g.L.Link.told g.L.Link.patience g.L.Link.opened_with g.L.Link.faults g.L.Link.made g.L.Link.openings (ticks_in (take c.loop-line.line-index c.args.script.now.lines)) c.args.link.now c.loop-line.link c.loop-line.invariant.link c.requires.open

pub conduct_line-requires-clause-may : goal.conduct_line-requires-clause-may
conduct_line-requires-clause-may g c κs within =
    next-may (plan_of c.args.session.now).config c.args.script.now c.as_slice-line-items.result.now c.loop-line.line-index (g.L.Link.told c.loop-line.link) c.loop-line.session
    c.requires.script c.as_slice-line-items.ensures c.loop-line.invariant.conducted c.loop-line-test.true

pub returns-in_err-conduct_line-clause-link : goal.returns-in_err-conduct_line-clause-link
returns-in_err-conduct_line-clause-link g c =
    let lines = c.args.script.now.lines in
    let k = c.loop-line.line-index in
    let items = c.as_slice-line-items.result.now in
    let one = nothings_by (get_or items k no_line).act in
    KeepsLink-more g.L.Link.told g.L.Link.patience g.L.Link.opened_with g.L.Link.faults g.L.Link.made g.L.Link.openings (ticks_in (take k lines) + one) (ticks_in lines) c.args.link.now c.conduct_line.new.link
    (nothings-within lines items k c.as_slice-line-items.ensures c.loop-line-test.true)
    (KeepsLink-then g.L.Link.told g.L.Link.patience g.L.Link.opened_with g.L.Link.faults g.L.Link.made g.L.Link.openings (ticks_in (take k lines)) one c.args.link.now c.loop-line.link c.conduct_line.new.link c.loop-line.invariant.link c.in_err-conduct_line.ensures.link)

pub loop-line-preserved : goal.loop-line-preserved
loop-line-preserved g c =
    let inv = c.loop-line.invariant in
    let e = c.in_ok-conduct_line.ensures in
    let lines = c.args.script.now.lines in
    let k = c.loop-line.line-index in
    let items = c.as_slice-line-items.result.now in
    let one = nothings_by (get_or items k no_line).act in
    record {
      session = e.session;
      bank = e.bank;
      targets = e.targets;
      ticks = ap (λ (n : ℕ). c.loop-line.ticks + n) c.ticks_by-ticks.ensures
          ∙ ticks-more c.args.script.now.lines c.as_slice-line-items.result.now c.loop-line.line-index c.loop-line.ticks c.as_slice-line-items.ensures c.loop-line-test.true inv.ticks;
      conducted = next-run (plan_of c.args.session.now).config c.args.script.now c.as_slice-line-items.result.now c.loop-line.line-index (g.L.Link.told c.loop-line.link)
          c.loop-line.session c.requires.script c.as_slice-line-items.ensures inv.conducted c.loop-line-test.true (g.L.Link.told c.conduct_line.new.link)
          c.conduct_line.new.session inv.session e.session e.runs;
      link = KeepsLink-more g.L.Link.told g.L.Link.patience g.L.Link.opened_with g.L.Link.faults g.L.Link.made g.L.Link.openings (ticks_in (take k lines) + one) (ticks_in (take (k + 1) lines)) c.args.link.now c.conduct_line.new.link
          (nothings-next lines items k c.as_slice-line-items.ensures c.loop-line-test.true)
          (KeepsLink-then g.L.Link.told g.L.Link.patience g.L.Link.opened_with g.L.Link.faults g.L.Link.made g.L.Link.openings (ticks_in (take k lines)) one c.args.link.now c.loop-line.link c.conduct_line.new.link inv.link e.link);
    }

pub returns-clause-conducted : goal.returns-clause-conducted
returns-clause-conducted g c =
    let end : length c.args.script.now.lines ≤ c.loop-line.line-index =
    omega (arith, c.loop-line-test.false, ap (λ (l : List Line). length l) c.as_slice-line-items.ensures) in
    all-run (plan_of c.args.session.now).config c.args.script.now c.loop-line.line-index (g.L.Link.told c.loop-line.link) c.loop-line.session end c.loop-line.invariant.conducted

pub returns-clause-link : goal.returns-clause-link
returns-clause-link g c =
    let lines = c.args.script.now.lines in
    let k = c.loop-line.line-index in
    KeepsLink-more g.L.Link.told g.L.Link.patience g.L.Link.opened_with g.L.Link.faults g.L.Link.made g.L.Link.openings (ticks_in (take k lines)) (ticks_in lines) c.args.link.now c.loop-line.link (ticks-within lines k) c.loop-line.invariant.link
