use Rattle.std.proofs.Common.{◌≡◌, ℕ, ◌<◌, ◌≤◌, ◌++◌, [], ◌∷◌, length, drop}
use Rattle.std.specs.Prelude.{slice_index_or}
use Rattle.version_cell.specs.Sets.{pass_at}
use Rattle.cell_bank.proofs.making.hand_out.Given as goal

abbrev pub invariant-loop-pass : goal.invariant-loop-pass
invariant-loop-pass l = record {
  so_far : l.t ≡ length l.yielded;
  left : drop l.t l.fn.passes.items ≡ l.pass-iterator.rest.items;
  count : length l.hands.items ≡ length l.fn.hands.items;
  given : (s : ℕ) → s < l.t → slice_index_or l.hands.items s [] ≡ slice_index_or l.fn.hands.items s [] ++ pass_at l.fn.passes.items s ∷ [];
  rest : (s : ℕ) → l.t ≤ s → slice_index_or l.hands.items s [] ≡ slice_index_or l.fn.hands.items s [];
}
