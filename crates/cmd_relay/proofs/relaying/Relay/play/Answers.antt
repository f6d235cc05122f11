use Rattle.std.proofs.Common.{◌≤◌, ◌+◌, List, length, reverse, take, get_or, ap, subst, arith}
use Rattle.std.proofs.lemmas.List.{take_all}
use Rattle.ps_script.specs.declared.script.Line.{Line}
use Rattle.ps_script.specs.Sessions.{ticks_in}
use Rattle.ua_base.proofs.Links.{KeepsLink-more, KeepsLink-refl, KeepsLink-then, stays_open}
use Rattle.script_player.specs.Passing.{nothings_by}
use Rattle.script_player.proofs.Next.{no_line}
use Rattle.script_player.proofs.Ticks.{nothings-next, nothings-within, ticks-within}
use Rattle.cmd_relay.specs.Relaying.{HasRelayed}
use Rattle.cmd_relay.proofs.Stepping.{holds-relay, may-line, relayed-next}
use Rattle.cmd_relay.proofs.relaying.Relay.play.Goals as goal

pub loop-line-init : goal.loop-line-init
loop-line-init g c = record {
  lab = KeepsLink-refl g.A.Link.told g.A.Link.patience g.A.Link.opened_with g.A.Link.faults g.A.Link.made g.A.Link.openings c.args.lab.now;
  wire = KeepsLink-refl g.B.Link.told g.B.Link.patience g.B.Link.opened_with g.B.Link.faults g.B.Link.made g.B.Link.openings c.args.wire.now;
  relayed = λ first second scripts h. h;
}

pub play_line-requires-clause-lab : goal.play_line-requires-clause-lab
play_line-requires-clause-lab g c = stays_open g.A.Link.told g.A.Link.patience g.A.Link.opened_with g.A.Link.faults g.A.Link.made g.A.Link.openings (ticks_in (take c.loop-line.line-index c.args.script.now.lines)) c.args.lab.now c.loop-line.lab c.loop-line.invariant.lab c.requires.lab

pub play_line-requires-clause-wire : goal.play_line-requires-clause-wire
play_line-requires-clause-wire g c = stays_open g.B.Link.told g.B.Link.patience g.B.Link.opened_with g.B.Link.faults g.B.Link.made g.B.Link.openings (ticks_in (take c.loop-line.line-index c.args.script.now.lines)) c.args.wire.now c.loop-line.wire c.loop-line.invariant.wire c.requires.wire

pub play_line-requires-clause-holds : goal.play_line-requires-clause-holds
play_line-requires-clause-holds g c =
    let q = c.requires.relayed in
    (q.1, holds-relay q.0 q.1 c.args.script.now _ _ _ c.loop-line.self (c.loop-line.invariant.relayed q.0 q.1 q.2 q.3))

pub play_line-requires-clause-may : goal.play_line-requires-clause-may
play_line-requires-clause-may g c =
    let q = c.requires.relayed in
    may-line q.0 q.1 c.args.script.now c.as_slice-line-items.result.now c.loop-line.line-index q.2 c.as_slice-line-items.ensures c.loop-line-test.true _ _ c.loop-line.self
    (c.loop-line.invariant.relayed q.0 q.1 q.2 q.3)

pub returns-in_err-play_line-clause-lab : goal.returns-in_err-play_line-clause-lab
returns-in_err-play_line-clause-lab g c =
    let lines = c.args.script.now.lines in
    let k = c.loop-line.line-index in
    let items = c.as_slice-line-items.result.now in
    let one = nothings_by (get_or items k no_line).act in
    KeepsLink-more g.A.Link.told g.A.Link.patience g.A.Link.opened_with g.A.Link.faults g.A.Link.made g.A.Link.openings (ticks_in (take k lines) + one) (ticks_in lines) c.args.lab.now c.play_line.new.lab
    (nothings-within lines items k c.as_slice-line-items.ensures c.loop-line-test.true)
    (KeepsLink-then g.A.Link.told g.A.Link.patience g.A.Link.opened_with g.A.Link.faults g.A.Link.made g.A.Link.openings (ticks_in (take k lines)) one c.args.lab.now c.loop-line.lab c.play_line.new.lab c.loop-line.invariant.lab c.in_err-play_line.ensures.lab)

pub returns-in_err-play_line-clause-wire : goal.returns-in_err-play_line-clause-wire
returns-in_err-play_line-clause-wire g c =
    let lines = c.args.script.now.lines in
    let k = c.loop-line.line-index in
    let items = c.as_slice-line-items.result.now in
    let one = nothings_by (get_or items k no_line).act in
    KeepsLink-more g.B.Link.told g.B.Link.patience g.B.Link.opened_with g.B.Link.faults g.B.Link.made g.B.Link.openings (ticks_in (take k lines) + one) (ticks_in lines) c.args.wire.now c.play_line.new.wire
    (nothings-within lines items k c.as_slice-line-items.ensures c.loop-line-test.true)
    (KeepsLink-then g.B.Link.told g.B.Link.patience g.B.Link.opened_with g.B.Link.faults g.B.Link.made g.B.Link.openings (ticks_in (take k lines)) one c.args.wire.now c.loop-line.wire c.play_line.new.wire c.loop-line.invariant.wire c.in_err-play_line.ensures.wire)

pub loop-line-preserved : goal.loop-line-preserved
loop-line-preserved g c =
    let inv = c.loop-line.invariant in
    let e = c.in_ok-play_line.ensures in
    let lines = c.args.script.now.lines in
    let k = c.loop-line.line-index in
    let items = c.as_slice-line-items.result.now in
    let one = nothings_by (get_or items k no_line).act in
    record {
      lab = KeepsLink-more g.A.Link.told g.A.Link.patience g.A.Link.opened_with g.A.Link.faults g.A.Link.made g.A.Link.openings (ticks_in (take k lines) + one) (ticks_in (take (k + 1) lines)) c.args.lab.now c.play_line.new.lab
          (nothings-next lines items k c.as_slice-line-items.ensures c.loop-line-test.true)
          (KeepsLink-then g.A.Link.told g.A.Link.patience g.A.Link.opened_with g.A.Link.faults g.A.Link.made g.A.Link.openings (ticks_in (take k lines)) one c.args.lab.now c.loop-line.lab c.play_line.new.lab inv.lab e.lab);
      wire = KeepsLink-more g.B.Link.told g.B.Link.patience g.B.Link.opened_with g.B.Link.faults g.B.Link.made g.B.Link.openings (ticks_in (take k lines) + one) (ticks_in (take (k + 1) lines)) c.args.wire.now c.play_line.new.wire
          (nothings-next lines items k c.as_slice-line-items.ensures c.loop-line-test.true)
          (KeepsLink-then g.B.Link.told g.B.Link.patience g.B.Link.opened_with g.B.Link.faults g.B.Link.made g.B.Link.openings (ticks_in (take k lines)) one c.args.wire.now c.loop-line.wire c.play_line.new.wire inv.wire e.wire);
      relayed = λ first second scripts h.
          let so_far = inv.relayed first second scripts h in
          relayed-next first second c.args.script.now c.as_slice-line-items.result.now c.loop-line.line-index scripts c.as_slice-line-items.ensures c.loop-line-test.true
          c.passes_show_what_is_collected.ensures _ _ _ _ c.loop-line.self c.play_line.new.self so_far
          (e.relays second (holds-relay first second c.args.script.now _ _ _ c.loop-line.self so_far));
    }

pub returns-clause-relayed : goal.returns-clause-relayed
returns-clause-relayed g c = λ first second scripts h.
    let end : length c.args.script.now.lines ≤ c.loop-line.line-index =
    omega (arith, c.loop-line-test.false, ap (λ (l : List Line). length l) c.as_slice-line-items.ensures) in
    subst (λ (l : List Line). HasRelayed first second c.args.script.now (reverse l) (g.A.Link.told c.loop-line.lab) (g.B.Link.told c.loop-line.wire) c.loop-line.self) (take_all c.loop-line.line-index c.args.script.now.lines end)
    (c.loop-line.invariant.relayed first second scripts h)

pub returns-clause-lab : goal.returns-clause-lab
returns-clause-lab g c =
    let lines = c.args.script.now.lines in
    let k = c.loop-line.line-index in
    KeepsLink-more g.A.Link.told g.A.Link.patience g.A.Link.opened_with g.A.Link.faults g.A.Link.made g.A.Link.openings (ticks_in (take k lines)) (ticks_in lines) c.args.lab.now c.loop-line.lab (ticks-within lines k) c.loop-line.invariant.lab

pub returns-clause-wire : goal.returns-clause-wire
returns-clause-wire g c =
    let lines = c.args.script.now.lines in
    let k = c.loop-line.line-index in
    KeepsLink-more g.B.Link.told g.B.Link.patience g.B.Link.opened_with g.B.Link.faults g.B.Link.made g.B.Link.openings (ticks_in (take k lines)) (ticks_in lines) c.args.wire.now c.loop-line.wire (ticks-within lines k) c.loop-line.invariant.wire
