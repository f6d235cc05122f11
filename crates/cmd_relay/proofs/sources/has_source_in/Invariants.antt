use Rattle.std.proofs.Common.{ℕ, ◌<◌}
use Rattle.cmd_relay.specs.Sources.{IsSourceAt}
use Rattle.cmd_relay.proofs.sources.has_source_in.Given as goal

abbrev pub invariant-loop-i : goal.invariant-loop-i
invariant-loop-i l = (j : ℕ) → j < l.i → IsSourceAt l.first l.r j l.meta → ⊥
