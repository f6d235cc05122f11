use Rattle.std.proofs.Common.{◌≡◌, ℕ, ◌<◌, ◌≤◌, length, drop}
use Rattle.version_cell.specs.Passes.{Joins, SeesLawful}
use Rattle.version_cell.specs.Sets.{ArePassesOf, pass_at}
use Rattle.version_cell.proofs.sets.join_each.Given as goal

abbrev pub invariant-loop-other : goal.invariant-loop-other
invariant-loop-other g l = record {
  so_far : l.k ≡ length l.yielded;
  own : ArePassesOf l.cells l.passes.items;
  joined : (s : ℕ) → s < l.k → Joins (pass_at l.initial.passes.items s) (pass_at l.fn.others.items s) (pass_at l.passes.items s);
  lawful : (s : ℕ) → s < l.k → SeesLawful (pass_at l.passes.items s);
  left : drop l.k l.fn.others.items ≡ l.other-iterator.rest.items;
  rest : (s : ℕ) → l.k ≤ s → pass_at l.passes.items s ≡ pass_at l.initial.passes.items s;
}
