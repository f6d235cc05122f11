use Rattle.std.proofs.Common.{◌≡◌, take, replicate}
use Rattle.pubsub_engine.proofs.Authors.{answers_of, filled_by}
use Rattle.pubsub_engine.proofs.closing.threads_of.Given as goal

abbrev pub invariant-loop-thread : goal.invariant-loop-thread
invariant-loop-thread l = l.threads.items ≡ filled_by 0 (answers_of l.set (take l.thread l.dones)) (replicate l.count 0)
