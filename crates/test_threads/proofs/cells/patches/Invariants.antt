use Rattle.std.proofs.Common.{◌≡◌, length}
use Rattle.std.specs.Prelude.{All}
use Rattle.row_words.specs.Patches.{IsPatchOf}
use Rattle.test_threads.proofs.cells.patches.Given as goal

abbrev pub invariant-loop-k : goal.invariant-loop-k
invariant-loop-k g l = record {
  fit : All (IsPatchOf l.meta) l.patches.items;
  count : length l.patches.items ≡ l.k;
}
