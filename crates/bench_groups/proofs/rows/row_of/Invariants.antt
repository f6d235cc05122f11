use Rattle.row_words.specs.Belonging.{Belongs}
use Rattle.bench_groups.proofs.rows.row_of.Given as goal

abbrev pub invariant-loop-index : goal.invariant-loop-index
invariant-loop-index l = Belongs l.meta l.row.words
