use Rattle.std.proofs.Common.{List, ℕ, Err, refl, ap, subst}
use Rattle.cmd_base.specs.Outputs.{EndsWriting}
use Rattle.cmd_base.proofs.Ended.{written_late}
use Rattle.cmd_base.proofs.Ends.{ends_as, ends_unplayed, ends_written, over-wire}
use Rattle.cmd_base.proofs.playing.play.Goals as goal

pub returns-in-Ok-played-clause-ends : goal.returns-in-Ok-played-clause-ends
returns-in-Ok-played-clause-ends g c =
    let written = subst (λ (text : List ℕ). EndsWriting (g.K.Sink.written c.args.out.now) (g.K.Sink.written c.write_text.new.out) text c.write_text.result) c.deref.ensures.value c.write_text.ensures.written in
    ends_written _ _ _ _ _ _ _ _ _ _ _ _ c.in-Ok-played.text.items c.in-Ok.ensures.accepts refl c.in-Ok-played.ensures.report
    (over-wire g.A.Link.told g.A.Link.patience g.A.Link.opened_with g.A.Link.faults g.A.Link.made g.A.Link.openings _ _ _ _ _ c.in-Ok-played.ensures.over) refl written c.write_text.ensures.cause (c.in-Ok.ensures.folder.files, c.in-Ok.ensures.folder.counted)

pub returns-in-Ok-played-clause-unlinked : goal.returns-in-Ok-played-clause-unlinked
returns-in-Ok-played-clause-unlinked g c = λ is. absurd ((written_late _ _ _ _ c.write_text.ensures.written).behind_link is)

pub returns-in-Ok-played-clause-silent : goal.returns-in-Ok-played-clause-silent
returns-in-Ok-played-clause-silent g c = λ done unwritten. absurd ((written_late _ _ _ _ c.write_text.ensures.written).written done unwritten)

pub returns-clause-ends : goal.returns-clause-ends
returns-clause-ends g c =
    let failed = c.in-Err-played.ensures in
    ends_as _ _ _ _ _ _ _ _ _ _ _ c.status_of.ensures
    (ends_unplayed _ _ _ c.in-Err-played.end _ _ _ _ _ _ _ _ c.in-Ok.ensures.accepts refl (over-wire g.A.Link.told g.A.Link.patience g.A.Link.opened_with g.A.Link.faults g.A.Link.made g.A.Link.openings _ _ _ _ _ failed.over) (λ is. ap Err is)
    (c.in-Ok.ensures.folder.files, c.in-Ok.ensures.folder.counted) refl)
