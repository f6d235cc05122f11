use Rattle.std.proofs.Common.{◌≡◌, length, sym, ap, subst, ◌∙◌, arith}
use Rattle.std.specs.Prelude.{All}
use Rattle.version_cell.specs.Passes.{IsPassOf}
use Rattle.app_threads.proofs.Starting.{written_back}
use Rattle.test_threads.proofs.cells.threads_write_beside_one_another.Goals as goal

pub join_all-requires-clause-passes : goal.join_all-requires-clause-passes
join_all-requires-clause-passes g c =
    let passes = c.in_ok-cell.passes in
    let new = c.write_beside.new.passes in
    let same = c.write_beside.ensures.count in
    let count : length new ≡ length passes.items = same ∙ ap length c.as_mut_slice.ensures.value in
    subst (All (IsPassOf c.in_ok-cell.cell)) (sym (written_back passes.len new passes.items count (sym passes.ok.0)))
    (λ k d lt. c.write_beside.ensures.own k d (omega (arith, lt, same)))
