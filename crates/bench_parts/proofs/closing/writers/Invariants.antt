use Rattle.std.proofs.Common.{◌≡◌, length}
use Rattle.bench_parts.proofs.closing.writers.Given as goal

-- one for each part so far
abbrev pub invariant-loop-part : goal.invariant-loop-part
invariant-loop-part l = length l.ends.items ≡ l._part-index
