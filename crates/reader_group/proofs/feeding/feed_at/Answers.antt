use Rattle.std.proofs.Common.{subst}
use Rattle.reader_group.specs.Held.{payload_in}
use Rattle.reader_group.specs.Members.{seat_of}
use Rattle.reader_group.specs.MemberWords.{IsMemberOf, Tells}
use Rattle.reader_group.specs.Plain.{Fed, fed_by}
use Rattle.reader_group.proofs.Each.{held_set}
use Rattle.reader_group.proofs.Outcomes.{account-fed}
use Rattle.reader_group.proofs.feeding.feed_at.Goals as goal

pub returns-clause-member : goal.returns-clause-member
returns-clause-member c = λ value holds.
    let seat = seat_of c.args.part.now c.args.meta.now in
    let payload = payload_in c.args.payload.now in
    let fed = c.feed.ensures.fed value (holds c.index-members-index.result) in
    held_set (IsMemberOf seat (fed_by seat c.args.receipt.now c.args.raised c.args.enabled payload value).member) c.args.members.now c.args.index c.feed.new.self c.requires.index
    (subst (λ (f : Fed). IsMemberOf seat f.member c.feed.new.self) (account-fed seat c.args.receipt.now c.args.raised c.args.enabled payload value) fed.member_is)

pub returns-clause-tally : goal.returns-clause-tally
returns-clause-tally c = λ value holds.
    let seat = seat_of c.args.part.now c.args.meta.now in
    let payload = payload_in c.args.payload.now in
    let fed = c.feed.ensures.fed value (holds c.index-members-index.result) in
    subst (λ (f : Fed). Tells f c.feed.result.tally) (account-fed seat c.args.receipt.now c.args.raised c.args.enabled payload value)
    (record { matched = fed.matched; bad = fed.accounts.bad })

pub returns-clause-account : goal.returns-clause-account
returns-clause-account c = λ value holds. (c.feed.ensures.fed value (holds c.index-members-index.result)).accounts
