use Rattle.std.proofs.Common.{◌<◌, List, length, get_or, sym, ap, ◌∙◌, subst}
use Rattle.ps_config.specs.declared.parts.WriterPart.{WriterPart}
use Rattle.pubsub_engine.proofs.Named.{writer-other}
use Rattle.pubsub_engine.proofs.logs.writer_within.Goals as goal

pub loop-w-preserved : goal.loop-w-preserved
loop-w-preserved c = λ g.
    writer-other c.args.group.now g c.loop-w.w c.args.id c.index-writers-w.result
    (subst (λ (l : List WriterPart). c.loop-w.w < length l) c.as_slice-writers.ensures c.loop-w-test.true)
    (c.index-writers-w.is ∙ ap (λ (l : List WriterPart). get_or l c.loop-w.w c.index-writers-w.result) c.as_slice-writers.ensures)
    (λ same. c.if-writers-w.false (ap (λ (part : WriterPart). part.id) (sym c.index-writers-w.is) ∙ same))
    ∙ c.loop-w.invariant g
