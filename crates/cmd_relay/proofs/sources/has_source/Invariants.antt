use Rattle.std.proofs.Common.{ℕ, ◌<◌}
use Rattle.cmd_relay.specs.Sources.{HasSourceIn}
use Rattle.cmd_relay.proofs.sources.has_source.Given as goal

abbrev pub invariant-loop-r : goal.invariant-loop-r
invariant-loop-r l = (q : ℕ) → q < l.r → HasSourceIn l.first q l.meta → ⊥
