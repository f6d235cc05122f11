use Rattle.bench_soak.specs.Sides.{IsRun}
use Rattle.bench_soak.proofs.running.Run.go_to.Given as goal

abbrev pub invariant-loop : goal.invariant-loop
invariant-loop l = IsRun l.config l.self
