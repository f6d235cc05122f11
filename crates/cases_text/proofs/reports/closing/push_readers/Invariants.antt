use Rattle.std.proofs.Common.{◌++◌, List, take}
use Rattle.ps_config.specs.declared.parts.ReaderPart.{ReaderPart}
use Rattle.ps_report.specs.Conditions.{HoldRows}
use Rattle.cases_text.proofs.reports.closing.push_readers.Given as goal

-- one more for each part so far
abbrev pub invariant-loop-part : goal.invariant-loop-part
invariant-loop-part l =
    (before : List ReaderPart) → HoldRows l.sets before l.fn.ends.items
    → HoldRows l.sets (before ++ take l.part-index l.parts) l.ends.items
