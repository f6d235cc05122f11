use Rattle.bench_soak.specs.Sides.{IsRun}
use Rattle.bench_soak.proofs.go_on.Given as goal

abbrev pub invariant-loop : goal.invariant-loop
invariant-loop g l = IsRun l.config l.run
