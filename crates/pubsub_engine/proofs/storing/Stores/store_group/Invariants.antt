use Rattle.std.proofs.Common.{◌+◌}
use Rattle.pubsub_engine.specs.Storing.{HaveStoredOn, MayStoreFrom}
use Rattle.pubsub_engine.proofs.storing.Stores.store_group.Given as goal

abbrev pub invariant-loop-i : goal.invariant-loop-i
invariant-loop-i g l = record {
  may : MayStoreFrom l.config l.targets (l.first + l.i) l.self;
  on : HaveStoredOn l.config l.subscriber.groups.items l.first (l.first + l.i) l.fn.self l.self;
}
