use Rattle.std.proofs.Common.{◌+◌, ◌++◌, take, sym, subst, arith}
use Rattle.ps_report.specs.Conditions.{HoldsRow, HoldRows}
use Rattle.ps_report.proofs.Pairs.{zip_place_more}
use Rattle.cases_text.proofs.reports.closing.push_readers.Goals as goal

pub loop-part-preserved : goal.loop-part-preserved
loop-part-preserved c = λ before holds.
    let parts = c.args.parts.now in
    let i = c.loop-part.part-index in
    let ends = c.loop-part.ends.items in
    let more = zip_place_more (HoldsRow c.args.sets.now) before parts ends i c.part-item.result c.in_ok-end.end (omega arith) c.part-item.is
    (c.loop-part.invariant before holds) c.in_ok-end.ensures in
    subst (λ l. HoldRows c.args.sets.now (before ++ take (i + 1) parts) l) (sym c.in_ok-push.ensures.items) more
