use Rattle.std.proofs.Common.{take}
use Rattle.std.specs.List.{All}
use Rattle.ps_report.specs.Conditions.{readers_of}
use Rattle.report_laws.specs.ReaderNames.{HasName}
use Rattle.report_laws.proofs.names.see_groups.Given as goal

abbrev pub invariant-loop-group : goal.invariant-loop-group
invariant-loop-group l = All HasName (readers_of (take l.group-index l.groups))
