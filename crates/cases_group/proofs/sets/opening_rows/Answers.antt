use Rattle.std.proofs.Common.{◌+◌, take, sym, subst, arith}
use Rattle.row_words.specs.Belonging.{Belongs}
use Rattle.cases_group.specs.Kept.{AreRows}
use Rattle.cases_group.proofs.Rows.{zip-more}
use Rattle.cases_group.proofs.sets.opening_rows.Goals as goal

pub loop-set-preserved : goal.loop-set-preserved
loop-set-preserved c =
    let sets = c.args.sets.now in
    let i = c.loop-set.set-index in
    subst (λ l. AreRows (take (i + 1) sets) l) (sym c.in_ok-push.ensures.items)
    (zip-more (λ meta sampled. Belongs meta sampled.row.words) sets c.loop-set.rows.items i c.set-item.result c.opening.result (omega arith) c.set-item.is
    c.loop-set.invariant c.opening.ensures)
