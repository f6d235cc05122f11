use Rattle.row_words.specs.Belonging.{Belongs}
use Rattle.cases_group.proofs.sets.written.Given as goal

abbrev pub invariant-loop-word : goal.invariant-loop-word
invariant-loop-word l =
    (goal.iterator-loop-word).can_next l.word-iterator × (goal.iterator-loop-word).is_finite l.word-iterator × Belongs l.meta l.row.words
