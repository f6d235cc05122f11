use Rattle.row_words.proofs.OpeningLaws.{Belongs-zeros, row_in-zeros}
use Rattle.row_words.proofs.row.Row.opening.Goals as goal

pub returns-clause-belongs : goal.returns-clause-belongs
returns-clause-belongs c = λ meta is. Belongs-zeros meta c.zeros.result is c.zeros.ensures

pub returns-clause-row : goal.returns-clause-row
returns-clause-row c = λ fields is. row_in-zeros fields c.zeros.result is c.zeros.ensures
