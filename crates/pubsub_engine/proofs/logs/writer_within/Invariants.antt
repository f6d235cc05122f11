use Rattle.std.proofs.Common.{◌≡◌, ℕ}
use Rattle.pubsub_engine.specs.Logs.{place_within}
use Rattle.pubsub_engine.proofs.Named.{rest_within}
use Rattle.pubsub_engine.proofs.logs.writer_within.Given as goal

abbrev pub invariant-loop-w : goal.invariant-loop-w
invariant-loop-w l = (g : ℕ) → rest_within l.group g l.w l.id ≡ place_within l.group g l.id
