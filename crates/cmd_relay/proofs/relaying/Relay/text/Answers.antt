use Rattle.std.proofs.Common.{[], ◌+◌, arith}
use Rattle.std.proofs.lemmas.Result.{IfOk-weaker}
use Rattle.ua_base.proofs.Links.{KeepsLink-more, KeepsLink-then}
use Rattle.ps_script.specs.Sessions.{ticks_in}
use Rattle.session_model.specs.Counts.{session_nothings}
use Rattle.pubsub_engine.proofs.OpenSets.{is-plan}
use Rattle.script_player.proofs.Newly.{may-close}
use Rattle.script_player.proofs.Ticks.{few-nothings}
use Rattle.cmd_relay.proofs.Following.{config-of-gateway}
use Rattle.cmd_relay.proofs.Stepping.{holds-relay}
use Rattle.cmd_relay.proofs.Whole.{closed-of, relayed}
use Rattle.cmd_relay.proofs.relaying.Relay.text.Goals as goal

pub play-requires-clause-relayed : goal.play-requires-clause-relayed
play-requires-clause-relayed g c =
    let a = c.args.accepted.now in
    (a.first, a.second, c.requires.script, c.requires.new.relayed _ _ c.requires.lab_empty c.requires.wire_empty)

pub end-requires-clause-holds : goal.end-requires-clause-holds
end-requires-clause-holds g c =
    let a = c.args.accepted.now in
    let begun = c.requires.new.relayed _ _ c.requires.lab_empty c.requires.wire_empty in
    let h = c.in_ok-play.ensures.relayed a.first a.second c.requires.script begun in
    (a.second, holds-relay a.first a.second a.script _ _ _ c.play.new.self h)

pub end-requires-clause-may : goal.end-requires-clause-may
end-requires-clause-may g c =
    let a = c.args.accepted.now in
    let begun = c.requires.new.relayed _ _ c.requires.lab_empty c.requires.wire_empty in
    let h = c.in_ok-play.ensures.relayed a.first a.second c.requires.script begun in
    may-close a.first a.script _ c.play.new.self.player h.played

pub close-requires : goal.close-requires
close-requires g c =
    let a = c.args.accepted.now in
    let begun = c.requires.new.relayed _ _ c.requires.lab_empty c.requires.wire_empty in
    let h = c.in_ok-play.ensures.relayed a.first a.second c.requires.script begun in
    let e = c.in_ok-end.ensures.relays a.second (holds-relay a.first a.second a.script _ _ _ c.play.new.self h) in
    record { player = e.behind.player }

pub text_of-requires-clause-closed : goal.text_of-requires-clause-closed
text_of-requires-clause-closed g c =
    let a = c.args.accepted.now in
    let begun = c.requires.new.relayed _ _ c.requires.lab_empty c.requires.wire_empty in
    let h = c.in_ok-play.ensures.relayed a.first a.second c.requires.script begun in
    let e = c.in_ok-end.ensures.relays a.second (holds-relay a.first a.second a.script _ _ _ c.play.new.self h) in
    closed-of c.passes_show_what_is_collected.ensures c.histories_are_the_models.ensures.rows c.a_closed_session_tells_the_headline.ensures a.first a.second a.script c.requires.script
    c.requires.new.plan (is-plan a.second [] c.requires.second.0 c.requires.second.1 tt) _ _ _ _ c.play.new.self c.end.new.self h e c.in_ok-closed.closed c.in_ok-closed.ensures.closes

pub gateways_have_numbers-requires : goal.gateways_have_numbers-requires
gateways_have_numbers-requires g c =
    let a = c.args.accepted.now in
    let begun = c.requires.new.relayed _ _ c.requires.lab_empty c.requires.wire_empty in
    let h = c.in_ok-play.ensures.relayed a.first a.second c.requires.script begun in
    let e = c.in_ok-end.ensures.relays a.second (holds-relay a.first a.second a.script _ _ _ c.play.new.self h) in
    record {
      gateway = e.behind.gateway;
      keeps = e.behind.keeps h.keeps;
      config = config-of-gateway a.second _ c.end.new.self.gateway (e.behind.lives h.lived h.stands).2;
      good = c.requires.second.0;
    }

pub text_of-requires-clause-second : goal.text_of-requires-clause-second
text_of-requires-clause-second g c =
    let a = c.args.accepted.now in
    let begun = c.requires.new.relayed _ _ c.requires.lab_empty c.requires.wire_empty in
    let h = c.in_ok-play.ensures.relayed a.first a.second c.requires.script begun in
    let e = c.in_ok-end.ensures.relays a.second (holds-relay a.first a.second a.script _ _ _ c.play.new.self h) in
    record {
      gateway = e.behind.gateway;
      keeps = e.behind.keeps h.keeps;
      config = config-of-gateway a.second _ c.end.new.self.gateway (e.behind.lives h.lived h.stands).2;
      good = c.requires.second.0;
    }

pub returns-clause-text : goal.returns-clause-text
returns-clause-text g c =
    let a = c.args.accepted.now in
    let begun = c.requires.new.relayed _ _ c.requires.lab_empty c.requires.wire_empty in
    let h = c.in_ok-play.ensures.relayed a.first a.second c.requires.script begun in
    let e = c.in_ok-end.ensures.relays a.second (holds-relay a.first a.second a.script _ _ _ c.play.new.self h) in
    IfOk-weaker c.text_of.result _ _
    (λ text told. relayed c.passes_show_what_is_collected.ensures c.histories_are_the_models.ensures.rows c.a_closed_session_tells_the_headline.ensures a.first a.second a.script c.requires.script
    c.requires.new.plan (is-plan a.second [] c.requires.second.0 c.requires.second.1 tt) _ _ _ _ c.play.new.self c.end.new.self h e c.in_ok-closed.closed c.in_ok-closed.ensures.closes
    c.the_lines_of_a_gateway_tell_stores.ensures.text text.items told c.gateways_have_numbers.ensures
    c.readers_are_told_by_their_names.ensures c.closed_sessions_have_numbers.ensures) c.text_of.ensures

-- so many answers Nothing come at most
pub returns-in_err-play-clause-lab : goal.returns-in_err-play-clause-lab
returns-in_err-play-clause-lab g c =
    let a = c.args.accepted.now in
    let few = few-nothings a.first a.script c.requires.script in
    KeepsLink-more g.A.Link.told g.A.Link.patience g.A.Link.opened_with g.A.Link.faults g.A.Link.made g.A.Link.openings (ticks_in a.script.lines) session_nothings c.args.lab.now c.play.new.lab (omega (arith, few)) c.play.ensures.lab

pub returns-in_err-end-clause-lab : goal.returns-in_err-end-clause-lab
returns-in_err-end-clause-lab g c =
    let a = c.args.accepted.now in
    KeepsLink-more g.A.Link.told g.A.Link.patience g.A.Link.opened_with g.A.Link.faults g.A.Link.made g.A.Link.openings (ticks_in a.script.lines + 1) session_nothings c.args.lab.now c.end.new.lab (few-nothings a.first a.script c.requires.script)
    (KeepsLink-then g.A.Link.told g.A.Link.patience g.A.Link.opened_with g.A.Link.faults g.A.Link.made g.A.Link.openings (ticks_in a.script.lines) 1 c.args.lab.now c.play.new.lab c.end.new.lab c.play.ensures.lab c.end.ensures.lab)

pub returns-in_err-closed-clause-lab : goal.returns-in_err-closed-clause-lab
returns-in_err-closed-clause-lab g c =
    let a = c.args.accepted.now in
    KeepsLink-more g.A.Link.told g.A.Link.patience g.A.Link.opened_with g.A.Link.faults g.A.Link.made g.A.Link.openings (ticks_in a.script.lines + 1) session_nothings c.args.lab.now c.end.new.lab (few-nothings a.first a.script c.requires.script)
    (KeepsLink-then g.A.Link.told g.A.Link.patience g.A.Link.opened_with g.A.Link.faults g.A.Link.made g.A.Link.openings (ticks_in a.script.lines) 1 c.args.lab.now c.play.new.lab c.end.new.lab c.play.ensures.lab c.end.ensures.lab)

pub returns-clause-lab : goal.returns-clause-lab
returns-clause-lab g c =
    let a = c.args.accepted.now in
    KeepsLink-more g.A.Link.told g.A.Link.patience g.A.Link.opened_with g.A.Link.faults g.A.Link.made g.A.Link.openings (ticks_in a.script.lines + 1) session_nothings c.args.lab.now c.end.new.lab (few-nothings a.first a.script c.requires.script)
    (KeepsLink-then g.A.Link.told g.A.Link.patience g.A.Link.opened_with g.A.Link.faults g.A.Link.made g.A.Link.openings (ticks_in a.script.lines) 1 c.args.lab.now c.play.new.lab c.end.new.lab c.play.ensures.lab c.end.ensures.lab)

pub returns-in_err-play-clause-wire : goal.returns-in_err-play-clause-wire
returns-in_err-play-clause-wire g c =
    let a = c.args.accepted.now in
    let few = few-nothings a.first a.script c.requires.script in
    KeepsLink-more g.B.Link.told g.B.Link.patience g.B.Link.opened_with g.B.Link.faults g.B.Link.made g.B.Link.openings (ticks_in a.script.lines) session_nothings c.args.wire.now c.play.new.wire (omega (arith, few)) c.play.ensures.wire

pub returns-in_err-end-clause-wire : goal.returns-in_err-end-clause-wire
returns-in_err-end-clause-wire g c =
    let a = c.args.accepted.now in
    KeepsLink-more g.B.Link.told g.B.Link.patience g.B.Link.opened_with g.B.Link.faults g.B.Link.made g.B.Link.openings (ticks_in a.script.lines + 1) session_nothings c.args.wire.now c.end.new.wire (few-nothings a.first a.script c.requires.script)
    (KeepsLink-then g.B.Link.told g.B.Link.patience g.B.Link.opened_with g.B.Link.faults g.B.Link.made g.B.Link.openings (ticks_in a.script.lines) 1 c.args.wire.now c.play.new.wire c.end.new.wire c.play.ensures.wire c.end.ensures.wire)

pub returns-in_err-closed-clause-wire : goal.returns-in_err-closed-clause-wire
returns-in_err-closed-clause-wire g c =
    let a = c.args.accepted.now in
    KeepsLink-more g.B.Link.told g.B.Link.patience g.B.Link.opened_with g.B.Link.faults g.B.Link.made g.B.Link.openings (ticks_in a.script.lines + 1) session_nothings c.args.wire.now c.end.new.wire (few-nothings a.first a.script c.requires.script)
    (KeepsLink-then g.B.Link.told g.B.Link.patience g.B.Link.opened_with g.B.Link.faults g.B.Link.made g.B.Link.openings (ticks_in a.script.lines) 1 c.args.wire.now c.play.new.wire c.end.new.wire c.play.ensures.wire c.end.ensures.wire)

pub returns-clause-wire : goal.returns-clause-wire
returns-clause-wire g c =
    let a = c.args.accepted.now in
    KeepsLink-more g.B.Link.told g.B.Link.patience g.B.Link.opened_with g.B.Link.faults g.B.Link.made g.B.Link.openings (ticks_in a.script.lines + 1) session_nothings c.args.wire.now c.end.new.wire (few-nothings a.first a.script c.requires.script)
    (KeepsLink-then g.B.Link.told g.B.Link.patience g.B.Link.opened_with g.B.Link.faults g.B.Link.made g.B.Link.openings (ticks_in a.script.lines) 1 c.args.wire.now c.play.new.wire c.end.new.wire c.play.ensures.wire c.end.ensures.wire)
