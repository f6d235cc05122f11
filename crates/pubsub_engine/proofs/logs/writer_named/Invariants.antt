use Rattle.std.proofs.Common.{◌≡◌}
use Rattle.pubsub_engine.specs.Logs.{place_named}
use Rattle.pubsub_engine.proofs.Named.{rest_named}
use Rattle.pubsub_engine.proofs.logs.writer_named.Given as goal

abbrev pub invariant-loop-g : goal.invariant-loop-g
invariant-loop-g l = rest_named l.config l.g l.id ≡ place_named l.config l.id
