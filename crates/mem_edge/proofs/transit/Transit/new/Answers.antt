use Rattle.std.proofs.Common.{ap, List, map}
use Rattle.mem_edge.specs.Contents.{bytes_of, injections}
use Rattle.mem_edge.specs.Marks.{datagram_at, entries}
use Rattle.mem_edge.specs.declared.mark.Mark.{Mark}
use Rattle.mem_edge.proofs.Kept.{kept_none}
use Rattle.mem_edge.proofs.transit.Transit.new.Goals as goal

pub invariant_of-result-clause-kept : goal.invariant_of-result-clause-kept
invariant_of-result-clause-kept c =
    kept_none _ _ _ _ _ _ (ap bytes_of c.new.ensures.items) c.new-2.ensures.items c.new-4.ensures.items
    (ap (λ (log : List Mark). entries (datagram_at (map (λ p. p.1) (injections c.args.injected.items)) (bytes_of c.new.result.items)) 0 log) c.new-5.ensures.items)
