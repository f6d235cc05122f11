use Rattle.std.proofs.Common.{◌≡◌, ◌++◌, length, drop}
use Rattle.ps_report.specs.Conditions.{writers_of}
use Rattle.ps_report.specs.Reports.{group_lines}
use Rattle.ps_report.proofs.printing.put_groups.Given as goal

abbrev pub invariant-loop-i : goal.invariant-loop-i
invariant-loop-i l =
    (l.out.items ++ group_lines (drop l.i l.parts) (drop l.i l.ends) l.rest ≡ l.fn.out.items ++ group_lines l.parts l.ends l.writers)
    × (length l.rest ≡ length (writers_of (drop l.i l.parts)))
