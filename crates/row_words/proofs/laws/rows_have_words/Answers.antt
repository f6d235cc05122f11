use Rattle.row_words.proofs.RowLaws.{narrow, Belongs-spelled_row, row_in-spelled_row}
use Rattle.row_words.proofs.laws.rows_have_words.Goals as goal

pub returns-clause-belongs : goal.returns-clause-belongs
returns-clause-belongs c = λ meta row is. Belongs-spelled_row meta row (narrow meta.fields is)

pub returns-clause-row : goal.returns-clause-row
returns-clause-row c = λ meta row. row_in-spelled_row meta.quality meta.fields row
