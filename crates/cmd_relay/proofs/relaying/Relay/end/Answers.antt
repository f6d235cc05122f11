use Rattle.std.proofs.Common.{arith}
use Rattle.std.proofs.lemmas.Result.{on_ok_weaker}
use Rattle.ua_base.proofs.Links.{KeepsLink-more, KeepsLink-refl}
use Rattle.cmd_relay.proofs.Passed.{may-follow, passed-holds}
use Rattle.cmd_relay.proofs.relaying.Relay.end.Goals as goal

pub follow-requires-clause-may : goal.follow-requires-clause-may
follow-requires-clause-may g c =
    may-follow c.requires.holds.0 0 _ c.args.self.now c.end.new.self _ _ c.requires.holds.1 c.in_ok-end.ensures.player c.in_ok-end.ensures.ends c.requires.may

pub returns-clause-relays : goal.returns-clause-relays
returns-clause-relays g c =
    on_ok_weaker c.follow.result
    (λ follows. λ second holds. record {
      mid = c.end.new.self;
      player = c.in_ok-end.ensures.player;
      ends = c.in_ok-end.ensures.ends;
      behind = follows second (passed-holds second 0 _ c.args.self.now c.end.new.self _ _ holds c.in_ok-end.ensures.player c.in_ok-end.ensures.ends);
    }) c.follow.ensures.follows

pub returns-in_err-end-clause-wire : goal.returns-in_err-end-clause-wire
returns-in_err-end-clause-wire g c =
    KeepsLink-more g.B.Link.told g.B.Link.patience g.B.Link.opened_with g.B.Link.faults g.B.Link.made g.B.Link.openings 0 1 c.args.wire.now c.args.wire.now (omega arith) (KeepsLink-refl g.B.Link.told g.B.Link.patience g.B.Link.opened_with g.B.Link.faults g.B.Link.made g.B.Link.openings c.args.wire.now)
