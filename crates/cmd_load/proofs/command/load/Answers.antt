use Rattle.std.proofs.Common.{List, ℕ, refl, subst}
use Rattle.cmd_base.specs.Outputs.{EndsWriting}
use Rattle.cmd_base.proofs.Ended.{written_late}
use Rattle.cmd_load.proofs.Ends.{ends_written, ends_unplayed}
use Rattle.cmd_load.proofs.command.load.Goals as goal

pub returns-in-Ok-clause-ends : goal.returns-in-Ok-clause-ends
returns-in-Ok-clause-ends g c =
    let written = subst (λ (text : List ℕ). EndsWriting (g.K.Sink.written c.args.out.now) (g.K.Sink.written c.write_text.new.out) text c.write_text.result) c.deref.ensures.value c.write_text.ensures.written in
    ends_written _ _ _ _ _ _ c.in-Ok.text.items c.in-Ok.ensures.summary written refl c.in-Ok.ensures.link c.write_text.ensures.cause

pub returns-in-Ok-clause-silent : goal.returns-in-Ok-clause-silent
returns-in-Ok-clause-silent g c = λ done unwritten. absurd ((written_late _ _ _ _ c.write_text.ensures.written).written done unwritten)
