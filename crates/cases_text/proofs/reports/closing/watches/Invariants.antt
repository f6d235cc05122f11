use Rattle.std.proofs.Common.{◌<◌, length}
use Rattle.std.specs.List.{All}
use Rattle.cases_text.proofs.reports.closing.watches.Given as goal

abbrev pub invariant-lines : goal.invariant-lines
invariant-lines l = All (λ end. end.reader < length l.readers) l.ends.items
