use Rattle.std.proofs.Common.{take}
use Rattle.bench_groups.specs.Running.{AreRows}
use Rattle.bench_groups.proofs.rows.rows_of.Given as goal

abbrev pub invariant-loop-meta : goal.invariant-loop-meta
invariant-loop-meta l = AreRows (take l.meta-index l.metas) l.rows.items
