use Rattle.std.proofs.Common.{◌≡◌, ◌+◌, length}
use Rattle.cases_text.proofs.reports.closing.push_ends.Given as goal

-- one more for each piece so far
abbrev pub invariant-loop-index : goal.invariant-loop-index
invariant-loop-index g l = length l.ends.items ≡ length l.fn.ends.items + l._index
