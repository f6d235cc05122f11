use Rattle.std.proofs.Common.{◌≡◌, map, take}
use Rattle.pubsub_states.specs.Changes.{opening_flags}
use Rattle.pubsub_states.proofs.tree.opening_flags.Given as goal

-- the flags so far
abbrev pub invariant-loop-component : goal.invariant-loop-component
invariant-loop-component l = l.flags.items ≡ map opening_flags (take l.component-index l.components)
