use Rattle.std.proofs.Common.{ℕ, ◌<◌, get_or}
use Rattle.group_keys.specs.InMemory.{IsKeySet}
use Rattle.group_keys.specs.declared.key_set.KeySet.{KeySet}
use Rattle.group_keys.proofs.in_memory.tell_sets.Given as goal

abbrev pub invariant-loop-i : goal.invariant-loop-i
invariant-loop-i l = (k : ℕ) → k < l.i → (d : KeySet) → IsKeySet (get_or l.sets k d)
