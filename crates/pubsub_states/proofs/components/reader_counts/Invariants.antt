use Rattle.std.proofs.Common.{◌≡◌, length, map, take}
use Rattle.pubsub_states.proofs.components.reader_counts.Given as goal

-- the counts so far
abbrev pub invariant-loop-group : goal.invariant-loop-group
invariant-loop-group l = l.counts.items ≡ map (λ group. length group.reader) (take l.group-index l.groups)
