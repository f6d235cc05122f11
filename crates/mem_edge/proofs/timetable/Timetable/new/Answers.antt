use Rattle.std.proofs.Common.{rules}
use Rattle.std.proofs.lemmas.List.Sorted.{IsNonDecreasingBy-from_sort_by_key, answers_always, length_permutation}
use Rattle.mem_edge.proofs.Filters.{stable_filter}
use Rattle.mem_edge.proofs.timetable.Timetable.new.Goals as goal

pub invariant_of-result : goal.invariant_of-result
invariant_of-result g c = record {
  rising = IsNonDecreasingBy-from_sort_by_key (λ p. p.0) _ c.in_ok-sort_by_key.ensures.sorted (λ a r q k. search rules);
}

pub returns : goal.returns
returns g c = λ number.
    stable_filter _ _ number (length_permutation _ _ c.sort_by_key.ensures.permutation) (c.in_ok-sort_by_key.ensures.stable (λ p. p.0) (answers_always _ _ _ (λ f a r q k. search rules)))
