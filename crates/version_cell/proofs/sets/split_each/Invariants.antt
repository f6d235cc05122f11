use Rattle.std.proofs.Common.{◌≡◌, map, take}
use Rattle.version_cell.specs.Passes.{shared_by}
use Rattle.version_cell.proofs.sets.split_each.Given as goal

abbrev pub invariant-loop-k : goal.invariant-loop-k
invariant-loop-k l = record {
  same : l.passes.items ≡ l.fn.passes.items;
  given : l.given.items ≡ map shared_by (take l.k l.fn.passes.items);
}
