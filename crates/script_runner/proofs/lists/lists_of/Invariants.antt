use Rattle.std.proofs.Common.{◌≡◌, ℕ, ◌<◌, length}
use Rattle.app_threads.specs.Crews.{list_of}
use Rattle.script_runner.specs.Lists.{items_by}
use Rattle.script_runner.proofs.lists.lists_of.Given as goal

-- the lists of the threads so far
abbrev pub invariant-loop-thread : goal.invariant-loop-thread
invariant-loop-thread l = record {
  count : length l.lists.items ≡ l.thread;
  each : (thread : ℕ) → thread < l.thread → list_of l.lists.items thread ≡ items_by thread l.script.lines;
}
