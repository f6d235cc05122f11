use Rattle.app_threads.specs.Duties.{begun_with}
use Rattle.app_threads.specs.Running.{Ran}
use Rattle.app_threads.proofs.hand.run_list.Given as goal

abbrev pub invariant-loop-k : goal.invariant-loop-k
invariant-loop-k g l = Ran l.bank l.targets.cells l.fn.done.list (begun_with l.list l.fn.done) l.k l.at l.done
