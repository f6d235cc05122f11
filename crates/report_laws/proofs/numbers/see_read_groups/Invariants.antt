use Rattle.std.proofs.Common.{take}
use Rattle.std.specs.List.{All}
use Rattle.report_laws.specs.Numbers.{ReadGroupHasNumbers}
use Rattle.report_laws.proofs.numbers.see_read_groups.Given as goal

abbrev pub invariant-loop-end : goal.invariant-loop-end
invariant-loop-end l = All ReadGroupHasNumbers (take l.end-index l.groups)
