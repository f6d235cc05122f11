use Rattle.std.proofs.Common.{refl}
use Rattle.reader_group.specs.Members.{seat_of}
use Rattle.reader_group.specs.Held.{listed_at}
use Rattle.reader_group.proofs.Parts.{listed-bytes, offered-own}
use Rattle.reader_group.proofs.Taking.{Counts}
use Rattle.reader_group.proofs.member.Member.offer.Goals as goal

pub returns-clause-fed : goal.returns-clause-fed
returns-clause-fed c = λ fed h.
    let messages = c.args.messages.now in
    let writer = c.args.part.now.writer in
    let outcome = c.message-outcome.result in
    let counts : Counts c.args.account.now c.count.new.self outcome = record {
      matched = c.count.ensures.matched;
      bad = c.count.ensures.bad;
      findings = c.count.ensures.findings;
    } in
    offered-own (seat_of c.args.part.now c.args.meta.now) c.args.receipt.now writer writer fed (listed_at messages c.args.index) c.message.result.now c.args.self.now c.message-outcome.new.self
    c.args.account.now c.count.new.self outcome c.requires.own refl
    (listed-bytes messages c.args.index c.message.result.now messages.count c.requires.index c.message.ensures) h
    (c.message-outcome.ensures.case c.args.part.now fed.fed.member h.member_is) counts
