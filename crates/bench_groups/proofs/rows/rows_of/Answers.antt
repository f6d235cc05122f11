use Rattle.std.proofs.Common.{◌+◌, take, sym, subst, arith}
use Rattle.row_words.specs.Belonging.{Belongs}
use Rattle.writer_group.specs.declared.sampled.Sampled.{Sampled}
use Rattle.writer_group.proofs.SetupLaws.{zip-more}
use Rattle.bench_groups.specs.Running.{AreRows}
use Rattle.bench_groups.proofs.rows.rows_of.Goals as goal

pub loop-meta-preserved : goal.loop-meta-preserved
loop-meta-preserved c =
    let metas = c.args.metas.now in
    let i = c.loop-meta.meta-index in
    subst (AreRows (take (i + 1) metas)) (sym c.in_ok-push.ensures.items)
    (zip-more (λ meta (sampled : Sampled). Belongs meta sampled.row.words) metas c.loop-meta.rows.items i c.meta-item.result _ (omega arith) c.meta-item.is c.loop-meta.invariant c.row_of-row.ensures)
