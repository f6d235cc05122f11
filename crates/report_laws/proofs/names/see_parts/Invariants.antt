use Rattle.std.proofs.Common.{take}
use Rattle.std.specs.List.{All}
use Rattle.report_laws.specs.ReaderNames.{HasName}
use Rattle.report_laws.proofs.names.see_parts.Given as goal

abbrev pub invariant-loop-part : goal.invariant-loop-part
invariant-loop-part l = All HasName (take l.part-index l.parts)
