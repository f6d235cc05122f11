use Rattle.row_words.specs.Belonging.{Belongs}
use Rattle.cases_group.proofs.growth.grown_row.Given as goal

abbrev pub invariant-loop-index : goal.invariant-loop-index
invariant-loop-index l = Belongs l.long l.grown.words
