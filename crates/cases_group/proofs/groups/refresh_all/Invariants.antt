use Rattle.cases_group.specs.Kept.{AreTurners}
use Rattle.cases_group.proofs.groups.refresh_all.Given as goal

abbrev pub invariant-loop-index : goal.invariant-loop-index
invariant-loop-index l = AreTurners l.config l.metas l.groups.items
