use Rattle.std.proofs.Common.{◌≡◌, length}
use Rattle.version_cell.specs.Sets.{ArePassesOf, pass_at}
use Rattle.test_threads.proofs.crews.attend.Given as goal

abbrev pub invariant-loop-k : goal.invariant-loop-k
invariant-loop-k g l = record {
  seen : ArePassesOf l.bank l.seen;
  keeper : ArePassesOf l.targets.cells l.keeper;
  stored : length (pass_at l.keeper 0).seen ≡ l.k;
}
