use Rattle.std.specs.Prelude.{All}
use Rattle.version_cell.specs.Passes.{IsPassOf}
use Rattle.test_threads.proofs.cells.join_all.Given as goal

abbrev pub invariant-loop-pass : goal.invariant-loop-pass
invariant-loop-pass g l = record {
  first : IsPassOf l.cell l.first;
  left : All (IsPassOf l.cell) l.pass-iterator.rest.items;
}
