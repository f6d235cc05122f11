use Rattle.std.proofs.Common.{take}
use Rattle.ps_report.specs.Conditions.{HoldRows}
use Rattle.bench_parts.proofs.closing.readers.Given as goal

-- one for each part so far
abbrev pub invariant-loop-part : goal.invariant-loop-part
invariant-loop-part l = HoldRows l.sets (take l.part-index l.parts) l.ends.items
