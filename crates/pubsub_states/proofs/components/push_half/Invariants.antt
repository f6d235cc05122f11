use Rattle.std.proofs.Common.{◌≡◌, ◌++◌, take}
use Rattle.pubsub_states.specs.Components.{families}
use Rattle.pubsub_states.specs.Halves.{head_of, member_of}
use Rattle.pubsub_states.proofs.components.push_half.Given as goal

-- the families so far
abbrev pub invariant-loop-group : goal.invariant-loop-group
invariant-loop-group l = l.list.items ≡ l.initial.list.items ++ families (head_of l.half) (member_of l.half) 0 (take l.group l.counts)
