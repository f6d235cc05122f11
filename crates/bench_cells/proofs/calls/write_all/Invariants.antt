use Rattle.std.specs.Prelude.{IsSome}
use Rattle.version_cell.specs.Passes.{IsPassOf}
use Rattle.bench_cells.proofs.calls.write_all.Given as goal

abbrev pub invariant-loop : goal.invariant-loop
invariant-loop g l = record {
  own : IsPassOf l.cell l.pass;
  numbered : IsSome l.pass.author;
}
