use Rattle.std.proofs.Common.{◌<◌, ◌≤◌, ◌-◌, length}
use Rattle.dataset_meta.specs.Metas.{start_of}
use Rattle.key_delta.proofs.passing.last_before.Given as goal

abbrev pub invariant-loop-index : goal.invariant-loop-index
invariant-loop-index l = (l.from ≤ l.index) × (l.index < length l.meta.fields) × (start_of l.meta.fields l.index ≤ l.word)

abbrev pub decreases-loop-index : goal.decreases-loop-index
decreases-loop-index l = length l.meta.fields - l.index
