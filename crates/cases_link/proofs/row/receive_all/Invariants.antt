use Rattle.std.proofs.Common.{IsSome}
use Rattle.mem_edge.specs.MemoryLinks.{opened_by}
use Rattle.cases_link.proofs.row.receive_all.Given as goal

-- the link is open
abbrev pub invariant-loop-round : goal.invariant-loop-round
invariant-loop-round l = IsSome (opened_by l.link)
