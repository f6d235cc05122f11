use Rattle.std.proofs.Common.{◌≡◌, ◌≤◌, ◌+◌, ◌++◌, replicate, vec_len, vec_capacity}
use Rattle.mem_edge.proofs.transit.queue_copies.Given as goal

-- so many copies were queued
abbrev pub invariant-loop-done : goal.invariant-loop-done
invariant-loop-done l = record {
  items : l.queue.items ≡ l.fn.queue.items ++ replicate l.done l.place;
  len : vec_len l.queue ≡ vec_len l.fn.queue + l.done;
  capacity : vec_capacity l.fn.queue ≤ vec_capacity l.queue;
}
