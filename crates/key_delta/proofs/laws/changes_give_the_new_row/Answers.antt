use Rattle.key_delta.proofs.Differences.{new_words, none_differs}
use Rattle.key_delta.proofs.laws.changes_give_the_new_row.Goals as goal

pub returns-clause-words : goal.returns-clause-words
returns-clause-words c = new_words

pub returns-clause-none : goal.returns-clause-none
returns-clause-none c = none_differs
