use Rattle.std.proofs.Common.{take}
use Rattle.cases_group.specs.Kept.{AreRows}
use Rattle.cases_group.proofs.sets.opening_rows.Given as goal

-- a row for each set so far
abbrev pub invariant-loop-set : goal.invariant-loop-set
invariant-loop-set l = AreRows (take l.set-index l.sets) l.rows.items
