use Rattle.std.proofs.Common.{ℕ, ◌<◌}
use Rattle.uapubsub_c.specs.Places.{ShowsAt}
use Rattle.uapubsub_c.proofs.placing.first_line_with.Given as goal

-- no line so far shows the table
abbrev pub invariant-loop-end : goal.invariant-loop-end
invariant-loop-end l = (k : ℕ) → k < l.end → ¬ ShowsAt l.path l.text k
