use Rattle.std.proofs.Common.{◌≡◌, take}
use Rattle.pubsub_engine.proofs.ReadSets.{sets_in}
use Rattle.pubsub_engine.proofs.opening.sets_read.Given as goal

abbrev pub invariant-loop-group : goal.invariant-loop-group
invariant-loop-group l = l.sets.items ≡ sets_in (take l.group-index l.group-items)
