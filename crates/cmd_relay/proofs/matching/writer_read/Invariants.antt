use Rattle.std.proofs.Common.{ℕ, ◌<◌}
use Rattle.group_laws.specs.Matching.{ReadsWriter}
use Rattle.cmd_relay.proofs.matching.writer_read.Given as goal

abbrev pub invariant-loop-w : goal.invariant-loop-w
invariant-loop-w l = (j : ℕ) → j < l.w → ReadsWriter l.group j l.reader → ⊥
