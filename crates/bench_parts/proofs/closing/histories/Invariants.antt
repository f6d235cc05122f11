use Rattle.std.proofs.Common.{◌≡◌, length}
use Rattle.bench_parts.proofs.closing.histories.Given as goal

-- one for each set so far
abbrev pub invariant-loop-set : goal.invariant-loop-set
invariant-loop-set l = length l.ends.items ≡ l._set-index
