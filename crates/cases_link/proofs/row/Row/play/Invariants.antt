use Rattle.std.proofs.Common.{IsSome}
use Rattle.mem_edge.specs.MemoryLinks.{opened_by}
use Rattle.cases_link.proofs.row.Row.play.Given as goal

-- the link is open
abbrev pub invariant-loop-step : goal.invariant-loop-step
invariant-loop-step l = IsSome (opened_by l.link)
