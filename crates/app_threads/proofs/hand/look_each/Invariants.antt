use Rattle.std.proofs.Common.{take}
use Rattle.version_cell.specs.Sets.{ArePassesOf, ChangesAt, pass_at}
use Rattle.app_threads.specs.Duties.{Watched}
use Rattle.app_threads.proofs.hand.look_each.Given as goal

abbrev pub invariant-loop-k : goal.invariant-loop-k
invariant-loop-k g l = record {
  own : ArePassesOf l.targets.cells l.watches;
  others : ChangesAt l.reader l.fn.watches l.watches;
  watched : Watched (pass_at l.fn.watches l.reader) (pass_at l.watches l.reader) (take l.k l.counts);
}
