use Rattle.std.proofs.Common.{ℕ, ◌<◌}
use Rattle.fixed_layout.specs.Faults.{IsClash}
use Rattle.fixed_layout.proofs.judge.first_clash.Given as goal

abbrev pub invariant-loop-index : goal.invariant-loop-index
invariant-loop-index l = (k : ℕ) → k < l.index → ¬ IsClash l.start l.slots k
