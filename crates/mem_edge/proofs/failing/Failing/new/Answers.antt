use Rattle.std.proofs.lemmas.List.Filters.{dedup_is}
use Rattle.mem_edge.proofs.Failings.{sorted_ahead}
use Rattle.mem_edge.proofs.failing.Failing.new.Goals as goal

pub returns : goal.returns
returns c = sorted_ahead c.args.fails.now c.in_ok-numbers.numbers.items _ _ c.in_ok-numbers.ensures.items c.sort_unstable.ensures.permutation c.sort_unstable.ensures.sorted (dedup_is _ _ _ c.dedup.ensures.filtered)
