use Rattle.std.proofs.Common.{◌≡◌, ℕ, false, refl, sym, ap, subst, arith}
use Rattle.std.proofs.lemmas.Result.{on_ok_weaker}
use Rattle.ua_base.proofs.Links.{KeepsLink-more, KeepsLink-refl}
use Rattle.script_player.specs.Passing.{nothings_by}
use Rattle.cmd_relay.specs.Relaying.{Follows, MayFollow}
use Rattle.cmd_relay.proofs.Passed.{behind-other, behind-tick, may-follow, passed-holds, tick-may, tick-passes}
use Rattle.cmd_relay.proofs.relaying.Relay.play_line.Goals as goal

pub follow-requires-clause-may : goal.follow-requires-clause-may
follow-requires-clause-may g c =
    let what = c.args.line.now.act in
    let ms = c.in-Tick.ms in
    let passes = tick-passes what ms c.args.self.now.player c.play_line.new.self _ _ c.in-Tick.is c.in_ok-play_line.ensures.does in
    subst (λ (n : ℕ). MayFollow n false (record c.args.self.now { player = c.play_line.new.self })) (sym c.from.ensures)
    (may-follow c.requires.holds.0 ms _ c.args.self.now c.play_line.new.self _ _ c.requires.holds.1 c.in_ok-play_line.ensures.player passes (tick-may what ms c.args.self.now.player c.in-Tick.is c.requires.may))

pub returns-in-Tick-clause-relays : goal.returns-in-Tick-clause-relays
returns-in-Tick-clause-relays g c =
    let what = c.args.line.now.act in
    let ms = c.in-Tick.ms in
    let passes = tick-passes what ms c.args.self.now.player c.play_line.new.self _ _ c.in-Tick.is c.in_ok-play_line.ensures.does in
    on_ok_weaker c.follow.result
    (λ follows. λ second holds. record {
      mid = c.play_line.new.self;
      player = c.in_ok-play_line.ensures.player;
      does = c.in_ok-play_line.ensures.does;
      behind = behind-tick second what ms (record c.args.self.now { player = c.play_line.new.self }) c.follow.new.self (g.B.Link.told c.args.wire.now) (g.B.Link.told c.follow.new.wire) c.in-Tick.is
          (subst (λ (n : ℕ). Follows second n false (record c.args.self.now { player = c.play_line.new.self }) c.follow.new.self (g.B.Link.told c.args.wire.now) (g.B.Link.told c.follow.new.wire)) c.from.ensures
          (follows second (passed-holds second ms _ c.args.self.now c.play_line.new.self _ _ holds c.in_ok-play_line.ensures.player passes)));
    }) c.follow.ensures.follows

pub returns-in_err-play_line-clause-wire : goal.returns-in_err-play_line-clause-wire
returns-in_err-play_line-clause-wire g c =
    KeepsLink-more g.B.Link.told g.B.Link.patience g.B.Link.opened_with g.B.Link.faults g.B.Link.made g.B.Link.openings 0 (nothings_by c.args.line.now.act) c.args.wire.now c.args.wire.now (omega arith) (KeepsLink-refl g.B.Link.told g.B.Link.patience g.B.Link.opened_with g.B.Link.faults g.B.Link.made g.B.Link.openings c.args.wire.now)

pub returns-in-Tick-clause-wire : goal.returns-in-Tick-clause-wire
returns-in-Tick-clause-wire g c =
    let one : nothings_by c.args.line.now.act ≡ 1 = ap nothings_by c.in-Tick.is in
    KeepsLink-more g.B.Link.told g.B.Link.patience g.B.Link.opened_with g.B.Link.faults g.B.Link.made g.B.Link.openings 1 (nothings_by c.args.line.now.act) c.args.wire.now c.follow.new.wire (omega (arith, one)) c.follow.ensures.link

pub returns-in_default : goal.returns-in_default
returns-in_default g c = record {
  relays = λ second holds. record {
    mid = c.play_line.new.self;
    player = c.in_ok-play_line.ensures.player;
    does = c.in_ok-play_line.ensures.does;
    behind = behind-other second c.args.line.now.act (record c.args.self.now { player = c.play_line.new.self }) (record c.args.self.now { player = c.play_line.new.self }) (g.B.Link.told c.args.wire.now) (g.B.Link.told c.args.wire.now) (λ ms is. c.in_default.not-Tick ms is) refl refl;
  };
  lab = c.in_ok-play_line.ensures.link;
  wire = KeepsLink-more g.B.Link.told g.B.Link.patience g.B.Link.opened_with g.B.Link.faults g.B.Link.made g.B.Link.openings 0 (nothings_by c.args.line.now.act) c.args.wire.now c.args.wire.now (omega arith) (KeepsLink-refl g.B.Link.told g.B.Link.patience g.B.Link.opened_with g.B.Link.faults g.B.Link.made g.B.Link.openings c.args.wire.now);
}
