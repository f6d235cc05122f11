use Rattle.std.proofs.Common.{◌≡◌, ◌++◌, map}
use Rattle.std.specs.List.{range_with_len}
use Rattle.pubsub_states.specs.Halves.{member_of}
use Rattle.pubsub_states.proofs.components.push_family.Given as goal

-- the members so far
abbrev pub invariant-loop-index : goal.invariant-loop-index
invariant-loop-index l = l.list.items ≡ l.initial.list.items ++ map (member_of l.half l.group) (range_with_len 0 l.index)
