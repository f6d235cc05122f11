use Rattle.std.specs.Prelude.{All}
use Rattle.version_cell.specs.Sets.{ArePassesOf}
use Rattle.test_threads.specs.Lists.{IsDoneOf}
use Rattle.test_threads.proofs.crews.join_all.Given as goal

abbrev pub invariant-loop-done : goal.invariant-loop-done
invariant-loop-done g l = record {
  seen : ArePassesOf l.bank l.seen;
  looks : ArePassesOf l.targets.cells l.looks;
  left : All (IsDoneOf l.bank l.targets.cells) l.done-iterator.rest.items;
}
