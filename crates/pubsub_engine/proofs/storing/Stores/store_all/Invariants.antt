use Rattle.std.proofs.Common.{◌≡◌}
use Rattle.pubsub_engine.specs.Storing.{HaveStoredOn, MayStoreFrom, first_reader}
use Rattle.pubsub_engine.proofs.storing.Stores.store_all.Given as goal

abbrev pub invariant-loop-r : goal.invariant-loop-r
invariant-loop-r g l = record {
  first : l.first ≡ first_reader l.config l.r;
  may : MayStoreFrom l.config l.targets l.first l.self;
  on : HaveStoredOn l.config l.subscriber.groups.items 0 l.first l.fn.self l.self;
}
