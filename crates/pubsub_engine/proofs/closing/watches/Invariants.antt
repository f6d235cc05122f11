use Rattle.std.proofs.Common.{◌≡◌, take}
use Rattle.pubsub_engine.specs.Authored.{watches_in_bytes}
use Rattle.pubsub_engine.proofs.closing.watches.Given as goal

abbrev pub invariant-loop-done : goal.invariant-loop-done
invariant-loop-done l = l.watches.items ≡ watches_in_bytes (take l.done-index l.dones)
