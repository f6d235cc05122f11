use Rattle.std.proofs.Common.{sym, ap, ◌∙◌, subst}
use Rattle.row_words.specs.Belonging.{Belongs, row_in}
use Rattle.key_delta.proofs.copying.zeros_are_a_row.Goals as goal

pub returns-clause-belongs : goal.returns-clause-belongs
returns-clause-belongs c = λ meta words is zeros. subst (Belongs meta) (c.opening-zeros.ensures.zeros ∙ sym zeros) (c.opening-zeros.ensures.belongs meta is)

pub returns-clause-row : goal.returns-clause-row
returns-clause-row c = λ fields words is zeros. ap (row_in fields) (zeros ∙ sym c.opening-zeros.ensures.zeros) ∙ c.opening-zeros.ensures.row fields is
