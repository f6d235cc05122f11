use Rattle.reader_group.proofs.member.Member.read_slot.Goals as goal

pub returns-clause-member : goal.returns-clause-member
returns-clause-member c = λ seat member h.
    record { kept = h.kept; passed = h.passed; numbering = h.numbering; joining = h.joining; timer = h.timer; late = h.late; ready = h.ready; confirmed = h.confirmed }
