use Rattle.std.proofs.Common.{ℕ, List, leb, ltb, rules}
use Rattle.std.specs.List.Sorted.{IsNonDecreasingBy}
use Rattle.std.proofs.lemmas.List.{take_rest}
use Rattle.std.proofs.lemmas.List.Sorted.{IsPartitionPoint-from_clause, IsPartitionedBy-leb, IsPartitionedBy-ltb, IsNonDecreasingBy-drop}
use Rattle.mem_edge.proofs.Filters.{filter_between}
use Rattle.mem_edge.proofs.timetable.Timetable.at.Goals as goal

pub returns : goal.returns
returns g c =
    let xs : List (ℕ × g.row.T.Denot) = c.args.self.now.pairs.items in
    let start : ℕ = c.partition_point-start.result in
    let rising : IsNonDecreasingBy (λ p. p.0) xs = c.args.self.now.rising in
    let before = IsPartitionPoint-from_clause (λ p. ltb p.0 c.args.number) _ _ c.partition_point-start.ensures.partitioned (IsPartitionedBy-ltb (λ p. p.0) _ c.args.number (rw c.deref.ensures.value rising)) (λ a r q k. search rules) in
    let after = IsPartitionPoint-from_clause (λ p. leb p.0 c.args.number) _ _ c.partition_point-count.ensures.partitioned (IsPartitionedBy-leb (λ p. p.0) _ c.args.number (rw (take_rest, c.deref-2.ensures.value) (IsNonDecreasingBy-drop (λ p. p.0) start xs rising))) (λ a r q k. search rules) in
    rw (take_rest, c.deref-2.ensures.value)
    (filter_between xs c.args.number start c.partition_point-count.result (rw c.deref.ensures.value at c.partition_point-start.ensures.bound) (rw (take_rest, c.deref-2.ensures.value) at c.partition_point-count.ensures.bound) (rw c.deref.ensures.value at before) (rw (take_rest, c.deref-2.ensures.value) at after))
