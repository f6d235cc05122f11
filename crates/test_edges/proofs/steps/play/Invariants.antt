use Rattle.std.proofs.Common.{IsSome}
use Rattle.test_edges.proofs.steps.play.Given as goal

-- the link is open
abbrev pub invariant-loop-step : goal.invariant-loop-step
invariant-loop-step g l = IsSome (g.L.Link.opened_with l.link)
