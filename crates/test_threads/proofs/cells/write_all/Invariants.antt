use Rattle.std.specs.Prelude.{IsSome}
use Rattle.version_cell.specs.Passes.{IsPassOf}
use Rattle.test_threads.proofs.cells.write_all.Given as goal

abbrev pub invariant-loop-k : goal.invariant-loop-k
invariant-loop-k g l = record {
  own : IsPassOf l.cell l.pass;
  numbered : IsSome l.pass.author;
}
