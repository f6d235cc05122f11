use Rattle.std.proofs.Common.{◌≡◌, refl, sym, ◌∙◌, true}
use Rattle.receive_timer.specs.Told.{is_due}
use Rattle.reader_group.proofs.member.Member.expire.Goals as goal

pub returns-then-due-clause-member : goal.returns-then-due-clause-member
returns-then-due-clause-member c = λ seat member h.
    let cut = c.cut.ensures.member seat member h in
    let due : is_due seat.part.timeout member.told c.args.now ≡ true = sym (c.due.ensures seat.part.timeout member.told h.timer) ∙ c.if-due.true in
    rw due (record { kept = cut.kept; passed = cut.passed; numbering = cut.numbering; joining = cut.joining; timer = cut.timer; late = refl; ready = refl; confirmed = cut.confirmed })

pub returns-then-due-clause-reader : goal.returns-then-due-clause-reader
returns-then-due-clause-reader c = λ meta h. let cut = c.cut.ensures.reader meta h in record { reader = cut.reader; frame = cut.frame }
