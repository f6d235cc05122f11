use Rattle.std.proofs.Common.{◌≡◌, ℕ, ◌<◌, ◌≤◌, [], length, map, drop}
use Rattle.std.specs.Prelude.{slice_index_or}
use Rattle.version_cell.specs.Passes.{shared_by}
use Rattle.app_threads.specs.declared.done.Done.{Done}
use Rattle.app_threads.specs.Crews.{IsFresh, list_of}
use Rattle.app_threads.proofs.crew.Crew.new.Given as goal

abbrev pub invariant-loop-passes : goal.invariant-loop-passes
invariant-loop-passes l = record {
  within : l.t ≤ length l.fn.hands.items;
  so_far : l.t ≡ length l.yielded;
  left : drop l.t l.fn.hands.items ≡ l.passes-iterator.rest.items;
  count : length l.dones.items ≡ l.t;
  looks : l.looks ≡ l.fn.looks;
  fresh : (s : ℕ) (none : Done) → s < l.t → IsFresh s (list_of l.lists.items s) (slice_index_or l.dones.items s none);
  handed : (s : ℕ) (none : Done) → s < l.t → ((slice_index_or l.dones.items s none).passes ≡ slice_index_or l.fn.hands.items s [])
      × ((slice_index_or l.dones.items s none).watches ≡ map shared_by l.fn.looks);
}
