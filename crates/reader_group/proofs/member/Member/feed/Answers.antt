use Rattle.std.proofs.Common.{refl}
use Rattle.pubsub_model.specs.declared.reading.Why.TheVariants.{NewToken}
use Rattle.reader_group.specs.Members.{seat_of}
use Rattle.reader_group.specs.Plain.{cut_if}
use Rattle.reader_group.proofs.member.Member.feed.Goals as goal

pub returns-then-enabled-clause-fed : goal.returns-then-enabled-clause-fed
returns-then-enabled-clause-fed c = λ member h.
    let seat = seat_of c.args.part.now c.args.meta.now in
    rw c.if-enabled.true (c.take.ensures.fed (cut_if c.args.raised NewToken member) (c.cut_if_raised.ensures.member seat member h))

pub returns-else-enabled-clause-fed : goal.returns-else-enabled-clause-fed
returns-else-enabled-clause-fed c = λ member h.
    let seat = seat_of c.args.part.now c.args.meta.now in
    rw c.if-enabled.false
    (record { member_is = c.cut_if_raised.ensures.member seat member h; matched = refl; accounts = record { bad = refl; findings = refl } })
