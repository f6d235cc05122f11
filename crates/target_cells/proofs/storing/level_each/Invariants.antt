use Rattle.std.proofs.Common.{◌≡◌, ℕ, ◌<◌, ◌≤◌}
use Rattle.version_cell.specs.Passes.{SeesLawful}
use Rattle.version_cell.specs.Sets.{ArePassesOf, pass_at}
use Rattle.target_cells.specs.Keeping.{IsLevel}
use Rattle.target_cells.proofs.storing.level_each.Given as goal

abbrev pub invariant-loop-k : goal.invariant-loop-k
invariant-loop-k g l = record {
  same : l.keeper.items ≡ l.fn.keeper.items;
  own : ArePassesOf l.cells l.passes.items;
  level : (s : ℕ) → s < l.k → IsLevel (pass_at l.fn.keeper.items s) (pass_at l.fn.passes.items s) (pass_at l.passes.items s);
  lawful : (s : ℕ) → s < l.k → SeesLawful (pass_at l.passes.items s);
  rest : (s : ℕ) → l.k ≤ s → pass_at l.passes.items s ≡ pass_at l.fn.passes.items s;
}
