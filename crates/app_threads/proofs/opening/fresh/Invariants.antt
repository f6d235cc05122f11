use Rattle.app_threads.specs.Running.{HasRoom}
use Rattle.app_threads.proofs.opening.fresh.Given as goal

abbrev pub invariant-loop-k : goal.invariant-loop-k
invariant-loop-k l = HasRoom l.list l.k l.room
