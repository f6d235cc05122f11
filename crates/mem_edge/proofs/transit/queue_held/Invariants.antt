use Rattle.std.proofs.Common.{◌≡◌, ◌≤◌, ◌+◌, ◌++◌, take, vec_len, vec_capacity}
use Rattle.mem_edge.specs.Marks.{held_places}
use Rattle.mem_edge.proofs.transit.queue_held.Given as goal

-- of so many, those that were sent are queued
abbrev pub invariant-loop-hold : goal.invariant-loop-hold
invariant-loop-hold l = record {
  items : l.queue.items ≡ l.fn.queue.items ++ held_places l.places (take l.hold-index l.held);
  len : vec_len l.queue ≤ vec_len l.fn.queue + l.hold-index;
  capacity : vec_capacity l.fn.queue ≤ vec_capacity l.queue;
}
