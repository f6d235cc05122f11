use Rattle.cases_group.specs.Kept.{AreTurners}
use Rattle.cases_group.proofs.groups.turners_of.Given as goal

abbrev pub invariant-loop-index : goal.invariant-loop-index
invariant-loop-index l = AreTurners l.config l.metas l.turners.items
