use Rattle.std.proofs.Common.{◌≡◌, ◌≤◌, ◌+◌, ◌++◌, map, take, vec_len, vec_capacity}
use Rattle.mem_edge.specs.declared.mark.Source.TheVariants as place
use Rattle.mem_edge.proofs.transit.queue_injected.Given as goal

-- so many are queued
abbrev pub invariant-loop-pair : goal.invariant-loop-pair
invariant-loop-pair l = record {
  items : l.queue.items ≡ l.fn.queue.items ++ map (λ p. place.Injected p.1) (take l.pair-index l.injected);
  len : vec_len l.queue ≡ vec_len l.fn.queue + l.pair-index;
  capacity : vec_capacity l.fn.queue ≤ vec_capacity l.queue;
}
