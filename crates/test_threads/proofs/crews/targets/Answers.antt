use Rattle.std.proofs.Common.{refl, ap, List, ◌∙◌, arith}
use Rattle.std.specs.Prelude.{Some}
use Rattle.version_cell.specs.Known.{Known}
use Rattle.version_cell.specs.Sets.{pass_at}
use Rattle.test_threads.proofs.Within.{one_made, unseen_at}
use Rattle.test_threads.proofs.crews.targets.Goals as goal

pub returns-clause-one : goal.returns-clause-one
returns-clause-one g c = one_made c.in_ok-targets.targets.cells _ c.in_ok-targets.ensures.metas refl

pub store_one-requires-clause-reader : goal.store_one-requires-clause-reader
store_one-requires-clause-reader g c =
    let one = one_made c.in_ok-targets.targets.cells _ c.in_ok-targets.ensures.metas refl in
    omega (arith, one)

pub store_one-requires-clause-none : goal.store_one-requires-clause-none
store_one-requires-clause-none g c =
    let cells = c.in_ok-targets.targets.cells in
    let one = one_made cells _ c.in_ok-targets.ensures.metas refl in
    ap (λ (passes : List Known). (pass_at passes 0).seen) c.in_ok-targets.ensures.keeper ∙ unseen_at cells (Some 0) one
