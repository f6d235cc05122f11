use Rattle.row_words.proofs.CutLaws.{Belongs-cut_words, row_in-cut_words}
use Rattle.row_words.proofs.laws.cut_rows_have_words.Goals as goal

pub returns-clause-belongs : goal.returns-clause-belongs
returns-clause-belongs c = Belongs-cut_words

pub returns-clause-row : goal.returns-clause-row
returns-clause-row c = row_in-cut_words
