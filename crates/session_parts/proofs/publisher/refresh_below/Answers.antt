use Rattle.std.proofs.Common.{◌≡◌, ℕ, length, ap, subst, arith}
use Rattle.std.specs.List.{range_with_len}
use Rattle.session_model.specs.Deeds.{is_writer_below, refreshed_where}
use Rattle.writer_group.specs.Standing.{IsGroup}
use Rattle.session_parts.proofs.Refreshing.{refreshes-more}
use Rattle.session_parts.proofs.publisher.refresh_below.Goals as goal

pub refresh_if-requires : goal.refresh_if-requires
refresh_if-requires c =
    omega (arith, (c.loop-w.invariant.made c.requires.made.0 c.requires.made.1).writers, c.loop-w-test.true, ap length c.as_slice-w-end.ensures)

pub loop-w-preserved : goal.loop-w-preserved
loop-w-preserved c =
    let e = c.refresh_if.ensures in
    refreshes-more c.args.part.now (is_writer_below c.args.component c.args.g) c.loop-w.w c.is_at_or_above.result c.args.group.now c.loop-w.group c.refresh_if.new.group
    c.is_at_or_above.ensures e.index e.made e.stands e.goes_on e.logs c.loop-w.invariant

pub returns-clause-stands : goal.returns-clause-stands
returns-clause-stands c =
    λ metas past h.
    let all : c.loop-w.w ≡ length c.args.part.now.writer = omega (arith, ap length c.as_slice-w-end.ensures, c.loop-w-test.false, c.loop-w.auto.w-end) in
    subst (λ (n : ℕ). IsGroup metas c.args.part.now (refreshed_where (is_writer_below c.args.component c.args.g) past (range_with_len 0 n)) c.loop-w.group) all
    (c.loop-w.invariant.stands metas past h)
