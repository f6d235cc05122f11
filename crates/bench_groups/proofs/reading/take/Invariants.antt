use Rattle.bench_groups.specs.Taking.{MayTake}
use Rattle.bench_groups.proofs.reading.take.Given as goal

abbrev pub invariant-loop-end : goal.invariant-loop-end
invariant-loop-end l = MayTake l.config l.on l.group
