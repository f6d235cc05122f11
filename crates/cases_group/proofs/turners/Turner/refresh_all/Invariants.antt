use Rattle.cases_group.specs.Kept.{IsTurner}
use Rattle.cases_group.proofs.turners.Turner.refresh_all.Given as goal

abbrev pub invariant-loop-index : goal.invariant-loop-index
invariant-loop-index l = IsTurner l.config l.metas l.self
