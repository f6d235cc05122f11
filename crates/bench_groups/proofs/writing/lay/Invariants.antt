use Rattle.std.proofs.Common.{◌≤◌, length}
use Rattle.bench_groups.proofs.writing.lay.Given as goal

abbrev pub invariant-loop-index : goal.invariant-loop-index
invariant-loop-index l = l.at ≤ length l.bytes
