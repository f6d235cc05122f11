use Rattle.version_cell.specs.Passes.{IsPassOf}
use Rattle.bench_cells.proofs.calls.read_all.Given as goal

abbrev pub invariant-loop : goal.invariant-loop
invariant-loop g l = IsPassOf l.cell l.pass
