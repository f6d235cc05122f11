use Rattle.bench_soak.specs.Sides.{IsSubscriber}
use Rattle.bench_soak.proofs.subscriber.Subscriber.compare.Given as goal

abbrev pub invariant-loop-index : goal.invariant-loop-index
invariant-loop-index l = IsSubscriber l.config l.self
