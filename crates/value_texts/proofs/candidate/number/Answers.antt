use Rattle.value_texts.proofs.candidate.number.Goals as goal

pub returns-in-Ok : goal.returns-in-Ok
returns-in-Ok g c = λ utf8. (c.parse.result, (rw c.in-Ok.ensures.cases.0 at c.parse.ensures.value, c.ok.ensures.value))

pub returns-in-Err : goal.returns-in-Err
returns-in-Err g c = λ utf8. absurd (c.in-Err.ensures.cases.0 utf8)
