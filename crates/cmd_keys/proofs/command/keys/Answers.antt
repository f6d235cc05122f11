use Rattle.std.proofs.Common.{List, ℕ, refl, subst, arith}
use Rattle.cmd_base.specs.Outputs.{EndsWriting}
use Rattle.cmd_keys.proofs.Told.{ends_without, ends_written, said_late}
use Rattle.cmd_keys.proofs.command.keys.Goals as goal

pub returns-clause-ends : goal.returns-clause-ends
returns-clause-ends g c =
    let written = subst (λ (text : List ℕ). EndsWriting (g.K.Sink.written c.args.out.now) (g.K.Sink.written c.write_text.new.out) text c.write_text.result) c.deref.ensures.value c.write_text.ensures.written in
    ends_written _ _ _ _ _ c.in-Ok.text.items c.in-Ok.ensures.text written c.in-Ok.ensures.folder.counted c.write_text.ensures.cause c.in-Ok.ensures.folder.files

pub returns-clause-silent : goal.returns-clause-silent
returns-clause-silent g c = λ done unwritten. absurd (said_late _ _ _ _ c.write_text.ensures.written done unwritten)

pub returns-in-Err-clause-ends : goal.returns-in-Err-clause-ends
returns-in-Err-clause-ends g c =
    ends_without _ _ _ _ _ c.in-Err.ensures.ends c.in-Err.ensures.folder.counted c.in-Err.ensures.unread refl (omega arith) c.in-Err.ensures.folder.files
