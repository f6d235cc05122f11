use Rattle.row_words.specs.Belonging.{Belongs}
use Rattle.cases_text.proofs.reports.held.row.Given as goal

abbrev pub invariant-loop-index : goal.invariant-loop-index
invariant-loop-index l = Belongs l.meta l.row.words
