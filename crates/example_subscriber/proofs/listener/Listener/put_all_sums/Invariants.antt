use Rattle.std.proofs.Common.{◌≤◌}
use Rattle.example_subscriber.specs.Listeners.{IsListener, readers_of}
use Rattle.example_subscriber.proofs.listener.Listener.put_all_sums.Given as goal

abbrev pub invariant-loop-index : goal.invariant-loop-index
invariant-loop-index l = record { listener : IsListener l.self; count : l.count ≤ readers_of l.self }
