use Rattle.cases_group.specs.Kept.{AreTurners}
use Rattle.cases_group.proofs.groups.grown_turners.Given as goal

-- those that are done, and those that are left
abbrev pub invariant-loop-turner : goal.invariant-loop-turner
invariant-loop-turner l = AreTurners l.config l.new l.done.items × AreTurners l.config l.old l.turner-iterator.rest.items
