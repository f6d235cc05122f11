use Rattle.std.proofs.Common.{take}
use Rattle.std.specs.List.{All}
use Rattle.report_laws.proofs.Entries.{EntryHasNumbers}
use Rattle.report_laws.proofs.numbers.logs_have_numbers.Given as goal

abbrev pub invariant-loop-entry : goal.invariant-loop-entry
invariant-loop-entry l = All EntryHasNumbers (take l.entry-index l.log)
