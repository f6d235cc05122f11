use Rattle.std.proofs.Common.{◌+◌, [], take, sym, subst, arith}
use Rattle.ps_report.specs.Conditions.{HoldsRow, HoldRows}
use Rattle.ps_report.proofs.Pairs.{zip_place_more}
use Rattle.bench_parts.proofs.closing.readers.Goals as goal

pub loop-part-preserved : goal.loop-part-preserved
loop-part-preserved c =
    let parts = c.args.parts.now in
    let i = c.loop-part.part-index in
    let ends = c.loop-part.ends.items in
    let more = zip_place_more (HoldsRow c.args.sets.now) [] parts ends i c.part-item.result c.in_ok-end.end (omega arith) c.part-item.is
    c.loop-part.invariant c.in_ok-end.ensures in
    subst (λ l. HoldRows c.args.sets.now (take (i + 1) parts) l) (sym c.in_ok-push.ensures.items) more
