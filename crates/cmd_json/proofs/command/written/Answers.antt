use Rattle.std.proofs.Common.{refl}
use Rattle.script_player.specs.Plays.{opening_of}
use Rattle.script_player.proofs.Openings.{as-failed, for-memory, performed-opened, performs-as}
use Rattle.cmd_json.specs.declared.playing.Written.{Written}
use Rattle.cmd_json.proofs.Jsoned.{is-json}
use Rattle.cmd_json.proofs.command.written.Goals as goal

pub returns-clause-text : goal.returns-clause-text
returns-clause-text g c =
    is-json c.args.accepted.now.config c.args.accepted.now.script (g.A.Link.told c.written_play.new.link) c.in_ok-written.written.lines.items c.deref.result.now c.in_ok-written.written.skipped
    c.in_ok-text_of_lines.field-0.items c.requires.good.sound c.deref.ensures.value c.in_ok-written.ensures.written c.in_ok-text_of_lines.ensures (record {
      records = c.readers_keep_records.ensures;
      messages = c.lines_are_read_as_their_messages.ensures;
      own = c.lines_have_their_writers_frames.ensures;
    })

pub returns-in_err-written-clause-over : goal.returns-in_err-written-clause-over
returns-in_err-written-clause-over g c =
    let same = as-failed {U = Written} c.from_residual.result c.in_err-written.field-0.0 c.from_residual.ensures.1 in
    performs-as g.A.Link.told g.A.Link.patience g.A.Link.opened_with g.A.Link.faults g.A.Link.made g.A.Link.openings (opening_of c.args.accepted.now.config c.args.accepted.now.script) _ _ _ _ _ _
    same.0 same.1 c.in_err-written.ensures.over

pub returns-in_err-text_of_lines-clause-over : goal.returns-in_err-text_of_lines-clause-over
returns-in_err-text_of_lines-clause-over g c =
    let none = for-memory c.from_residual-in_err-text_of_lines.result c.from_residual-in_err-text_of_lines.ensures.1 in
    performs-as g.A.Link.told g.A.Link.patience g.A.Link.opened_with g.A.Link.faults g.A.Link.made g.A.Link.openings (opening_of c.args.accepted.now.config c.args.accepted.now.script) _ _ _ _ _ _
    (λ is. refl) (λ is. absurd (none.1 is)) c.in_ok-written.ensures.over

pub returns-clause-over : goal.returns-clause-over
returns-clause-over g c =
    performs-as g.A.Link.told g.A.Link.patience g.A.Link.opened_with g.A.Link.faults g.A.Link.made g.A.Link.openings (opening_of c.args.accepted.now.config c.args.accepted.now.script) _ _ _ _ _ _
    (λ is. refl) (λ is. absurd (performed-opened is)) c.in_ok-written.ensures.over
