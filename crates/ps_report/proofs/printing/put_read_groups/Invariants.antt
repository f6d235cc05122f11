use Rattle.std.proofs.Common.{◌≡◌, ◌++◌, drop}
use Rattle.ps_report.specs.Conditions.{HoldRows, readers_of}
use Rattle.ps_report.specs.Reports.{read_group_lines}
use Rattle.ps_report.proofs.printing.put_read_groups.Given as goal

abbrev pub invariant-loop-i : goal.invariant-loop-i
invariant-loop-i l =
    (l.out.items ++ read_group_lines l.sets (drop l.i l.parts) (drop l.i l.ends) l.rest
    ≡ l.fn.out.items ++ read_group_lines l.sets l.parts l.ends l.readers)
    × HoldRows l.sets (readers_of (drop l.i l.parts)) l.rest
