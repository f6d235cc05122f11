use Rattle.std.proofs.Common.{◌≤◌, ◌+◌, List, length, take, get_or, ap, arith}
use Rattle.ps_script.specs.declared.script.Line.{Line}
use Rattle.ps_script.specs.Sessions.{ticks_in}
use Rattle.ua_base.proofs.Links.{KeepsLink-refl, KeepsLink-then, KeepsLink-more, stays_open}
use Rattle.script_player.specs.Passing.{nothings_by}
use Rattle.script_player.specs.Player.{config_of}
use Rattle.script_player.proofs.Next.{all-played, next-may, next-played, no_line, none-played}
use Rattle.script_player.proofs.Ticks.{nothings-next, nothings-within, ticks-within}
use Rattle.script_player.proofs.player.Player.play.Goals as goal

pub loop-line-init : goal.loop-line-init
loop-line-init g c = record {
  player = c.requires.player;
  played = none-played (config_of c.args.self.now) c.args.script.now (g.L.Link.told c.args.link.now) c.args.self.now c.requires.played;
  link = KeepsLink-refl g.L.Link.told g.L.Link.patience g.L.Link.opened_with g.L.Link.faults g.L.Link.made g.L.Link.openings c.args.link.now;
}

pub play_line-requires-clause-open : goal.play_line-requires-clause-open
play_line-requires-clause-open g c =
    stays_open g.L.Link.told g.L.Link.patience g.L.Link.opened_with g.L.Link.faults g.L.Link.made g.L.Link.openings (ticks_in (take c.loop-line.line-index c.args.script.now.lines)) c.args.link.now c.loop-line.link c.loop-line.invariant.link c.requires.open

pub play_line-requires-clause-player : goal.play_line-requires-clause-player
play_line-requires-clause-player g c = c.loop-line.invariant.player

pub play_line-requires-clause-may : goal.play_line-requires-clause-may
play_line-requires-clause-may g c =
    next-may (config_of c.args.self.now) c.args.script.now c.as_slice-line-items.result.now c.loop-line.line-index (g.L.Link.told c.loop-line.link) c.loop-line.self
    c.requires.script c.as_slice-line-items.ensures c.loop-line.invariant.player c.loop-line.invariant.played c.loop-line-test.true

pub returns-in_err-play_line-clause-link : goal.returns-in_err-play_line-clause-link
returns-in_err-play_line-clause-link g c =
    let lines = c.args.script.now.lines in
    let k = c.loop-line.line-index in
    let items = c.as_slice-line-items.result.now in
    let one = nothings_by (get_or items k no_line).act in
    KeepsLink-more g.L.Link.told g.L.Link.patience g.L.Link.opened_with g.L.Link.faults g.L.Link.made g.L.Link.openings (ticks_in (take k lines) + one) (ticks_in lines) c.args.link.now c.play_line.new.link
    (nothings-within lines items k c.as_slice-line-items.ensures c.loop-line-test.true)
    (KeepsLink-then g.L.Link.told g.L.Link.patience g.L.Link.opened_with g.L.Link.faults g.L.Link.made g.L.Link.openings (ticks_in (take k lines)) one c.args.link.now c.loop-line.link c.play_line.new.link c.loop-line.invariant.link c.in_err-play_line.ensures.link)

pub loop-line-preserved : goal.loop-line-preserved
loop-line-preserved g c =
    let inv = c.loop-line.invariant in
    let e = c.in_ok-play_line.ensures in
    let lines = c.args.script.now.lines in
    let k = c.loop-line.line-index in
    let items = c.as_slice-line-items.result.now in
    let one = nothings_by (get_or items k no_line).act in
    record {
      player = e.player;
      played = (next-played (config_of c.args.self.now) c.args.script.now c.as_slice-line-items.result.now c.loop-line.line-index (g.L.Link.told c.loop-line.link) c.loop-line.self
          c.requires.script c.as_slice-line-items.ensures inv.player inv.played c.loop-line-test.true (g.L.Link.told c.play_line.new.link) c.play_line.new.self e.player e.does).0;
      link = KeepsLink-more g.L.Link.told g.L.Link.patience g.L.Link.opened_with g.L.Link.faults g.L.Link.made g.L.Link.openings (ticks_in (take k lines) + one) (ticks_in (take (k + 1) lines)) c.args.link.now c.play_line.new.link
          (nothings-next lines items k c.as_slice-line-items.ensures c.loop-line-test.true)
          (KeepsLink-then g.L.Link.told g.L.Link.patience g.L.Link.opened_with g.L.Link.faults g.L.Link.made g.L.Link.openings (ticks_in (take k lines)) one c.args.link.now c.loop-line.link c.play_line.new.link inv.link e.link);
    }

pub returns-clause-player : goal.returns-clause-player
returns-clause-player g c = c.loop-line.invariant.player

pub returns-clause-played : goal.returns-clause-played
returns-clause-played g c =
    let end : length c.args.script.now.lines ≤ c.loop-line.line-index =
    omega (arith, c.loop-line-test.false, ap (λ (l : List Line). length l) c.as_slice-line-items.ensures) in
    all-played (config_of c.args.self.now) c.args.script.now c.loop-line.line-index (g.L.Link.told c.loop-line.link) c.loop-line.self end c.loop-line.invariant.played

pub returns-clause-link : goal.returns-clause-link
returns-clause-link g c =
    let lines = c.args.script.now.lines in
    let k = c.loop-line.line-index in
    KeepsLink-more g.L.Link.told g.L.Link.patience g.L.Link.opened_with g.L.Link.faults g.L.Link.made g.L.Link.openings (ticks_in (take k lines)) (ticks_in lines) c.args.link.now c.loop-line.link (ticks-within lines k) c.loop-line.invariant.link
