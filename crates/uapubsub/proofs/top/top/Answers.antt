use Rattle.std.proofs.Common.{sym, ◌∙◌, subst}
use Rattle.cmd_base.specs.Outside.{outside_of, wire_of}
use Rattle.cmd_base.specs.Plays.{PlayEnds}
use Rattle.cmd_run.specs.Runs.{RunEnds}
use Rattle.cmd_relay.specs.Ends.{RelayEnds, names_of}
use Rattle.cmd_relay.proofs.Writing.{writes-relay}
use Rattle.uapubsub.specs.Words.{Shape, Play, Relay, Run}
use Rattle.uapubsub.specs.Ends.{Does, world_of}
use Rattle.uapubsub.proofs.Named.{played_headline, run_headline}
use Rattle.uapubsub.proofs.Shapes.{one-shape}
use Rattle.uapubsub.proofs.top.top.Goals as goal

pub returns-clause-played : goal.returns-clause-played
returns-clause-played g c = λ script config is zero.
    let status = c.act-status.result in
    let old = outside_of g.F.Folder.tells g.F.Folder.faults g.K.Sink.written g.K.Sink.faults c.args.folder.now c.args.out.now in
    let new = outside_of g.F.Folder.tells g.F.Folder.faults g.K.Sink.written g.K.Sink.faults c.act-status.new.folder c.act-status.new.out in
    let lab = wire_of g.A.Link.told g.A.Link.patience g.A.Link.faults g.A.Link.opened_with g.A.Link.made g.A.Link.openings c.args.lab.now in
    let after = wire_of g.A.Link.told g.A.Link.patience g.A.Link.faults g.A.Link.opened_with g.A.Link.made g.A.Link.openings c.act-status.new.lab in
    let before = wire_of g.B.Link.told g.B.Link.patience g.B.Link.faults g.B.Link.opened_with g.B.Link.made g.B.Link.openings c.args.wire.now in
    let behind = wire_of g.B.Link.told g.B.Link.patience g.B.Link.faults g.B.Link.opened_with g.B.Link.made g.B.Link.openings c.act-status.new.wire in
    let ends : PlayEnds status script config old new lab after =
    subst (λ (shape : Shape). Does shape status (world_of old lab before) (world_of new after behind))
    (one-shape c.args.words.now c.in-Some.command (Play script config) c.in-Some.ensures.shape is) c.act-status.ensures.does in
    played_headline status script config old new after ends.says (sym c.told-2.ensures.number ∙ zero)

pub returns-clause-ran : goal.returns-clause-ran
returns-clause-ran g c = λ script config is zero.
    let status = c.act-status.result in
    let old = outside_of g.F.Folder.tells g.F.Folder.faults g.K.Sink.written g.K.Sink.faults c.args.folder.now c.args.out.now in
    let new = outside_of g.F.Folder.tells g.F.Folder.faults g.K.Sink.written g.K.Sink.faults c.act-status.new.folder c.act-status.new.out in
    let lab = wire_of g.A.Link.told g.A.Link.patience g.A.Link.faults g.A.Link.opened_with g.A.Link.made g.A.Link.openings c.args.lab.now in
    let after = wire_of g.A.Link.told g.A.Link.patience g.A.Link.faults g.A.Link.opened_with g.A.Link.made g.A.Link.openings c.act-status.new.lab in
    let before = wire_of g.B.Link.told g.B.Link.patience g.B.Link.faults g.B.Link.opened_with g.B.Link.made g.B.Link.openings c.args.wire.now in
    let behind = wire_of g.B.Link.told g.B.Link.patience g.B.Link.faults g.B.Link.opened_with g.B.Link.made g.B.Link.openings c.act-status.new.wire in
    let ends : RunEnds status script config old new before behind =
    subst (λ (shape : Shape). Does shape status (world_of old lab before) (world_of new after behind))
    (one-shape c.args.words.now c.in-Some.command (Run script config) c.in-Some.ensures.shape is) c.act-status.ensures.does in
    run_headline status script config old new behind ends.says (sym c.told-2.ensures.number ∙ zero)

pub returns-clause-relayed : goal.returns-clause-relayed
returns-clause-relayed g c = λ script first second is zero.
    let status = c.act-status.result in
    let names = names_of script first second in
    let old = outside_of g.F.Folder.tells g.F.Folder.faults g.K.Sink.written g.K.Sink.faults c.args.folder.now c.args.out.now in
    let new = outside_of g.F.Folder.tells g.F.Folder.faults g.K.Sink.written g.K.Sink.faults c.act-status.new.folder c.act-status.new.out in
    let lab = wire_of g.A.Link.told g.A.Link.patience g.A.Link.faults g.A.Link.opened_with g.A.Link.made g.A.Link.openings c.args.lab.now in
    let after = wire_of g.A.Link.told g.A.Link.patience g.A.Link.faults g.A.Link.opened_with g.A.Link.made g.A.Link.openings c.act-status.new.lab in
    let before = wire_of g.B.Link.told g.B.Link.patience g.B.Link.faults g.B.Link.opened_with g.B.Link.made g.B.Link.openings c.args.wire.now in
    let behind = wire_of g.B.Link.told g.B.Link.patience g.B.Link.faults g.B.Link.opened_with g.B.Link.made g.B.Link.openings c.act-status.new.wire in
    let ends : RelayEnds status names old new lab after before behind =
    subst (λ (shape : Shape). Does shape status (world_of old lab before) (world_of new after behind))
    (one-shape c.args.words.now c.in-Some.command (Relay script first second) c.in-Some.ensures.shape is) c.act-status.ensures.does in
    writes-relay status names old new after behind ends.says (sym c.told-2.ensures.number ∙ zero)
