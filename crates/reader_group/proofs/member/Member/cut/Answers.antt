use Rattle.reader_group.proofs.member.Member.cut.Goals as goal

pub returns-clause-reader : goal.returns-clause-reader
returns-clause-reader c = λ meta h. record { reader = c.cut.ensures.reader meta; frame = h.frame }
