use Rattle.std.proofs.Common.{◌≡◌, ◌<◌, ◌^◌, length, vec_len}
use Rattle.std.specs.Prelude.{All}
use Rattle.test_threads.specs.Lists.{AreThreeItems}
use Rattle.test_threads.proofs.crews.lists.Given as goal

abbrev pub invariant-loop-k : goal.invariant-loop-k
invariant-loop-k l = record {
  count : length l.lists.items ≡ l.k;
  short : All (λ list. vec_len list < 2 ^ 32) l.lists.items;
  each : All (λ list. AreThreeItems l.first l.second list.items) l.lists.items;
}
