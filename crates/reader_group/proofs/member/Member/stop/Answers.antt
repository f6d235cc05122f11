use Rattle.std.proofs.Common.{refl}
use Rattle.reader_group.proofs.member.Member.stop.Goals as goal

pub returns-clause-member : goal.returns-clause-member
returns-clause-member c = λ seat member h.
    let cut = c.cut.ensures.member seat member h in
    record { kept = cut.kept; passed = cut.passed; numbering = cut.numbering; joining = cut.joining; timer = cut.timer; late = cut.late; ready = refl; confirmed = cut.confirmed }

pub returns-clause-reader : goal.returns-clause-reader
returns-clause-reader c = λ meta h. let cut = c.cut.ensures.reader meta h in record { reader = cut.reader; frame = cut.frame }
