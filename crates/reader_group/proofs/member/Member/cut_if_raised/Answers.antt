use Rattle.reader_group.proofs.member.Member.cut_if_raised.Goals as goal

pub returns-then-raised-clause-member : goal.returns-then-raised-clause-member
returns-then-raised-clause-member c = λ seat member h. rw c.if-raised.true (c.cut.ensures.member seat member h)
