use Rattle.std.specs.Prelude.{fold}
use Rattle.std.proofs.Common.{sym, subst}
use Rattle.reader_group.specs.declared.payload.Payload.{Payload}
use Rattle.reader_group.specs.Members.{seat_of}
use Rattle.reader_group.specs.MemberWords.{IsFed}
use Rattle.reader_group.specs.Notices.{account_on, no_account}
use Rattle.fixed_layout.specs.Datagrams.{slot_of}
use Rattle.reader_group.specs.Payloads.{Chunked, pieces, reader_slot, slot_piece}
use Rattle.reader_group.specs.Held.{payload_in}
use Rattle.reader_group.proofs.Taking.{one-fed, own-chunk}
use Rattle.reader_group.proofs.member.Member.take.Goals as goal

pub returns-in-Chunk-clause-fed : goal.returns-in-Chunk-clause-fed
returns-in-Chunk-clause-fed c = λ member h.
    let part = c.args.part.now in
    let seat = seat_of part c.args.meta.now in
    let bytes = c.in-Chunk.bytes.now in
    let one = c.of_one-in-Chunk in
    let fed = one-fed seat c.args.receipt.now member (Chunked bytes) c.args.self.now c.chunk.new.self c.chunk.result one.result h (c.chunk.ensures.case part member h)
    one.ensures.matched one.ensures.bad one.ensures.findings in
    subst (λ (payload : Payload). IsFed seat (fold (account_on seat c.args.receipt.now) (no_account member) (pieces part (payload_in payload))) c.chunk.new.self one.result) (sym c.in-Chunk.is)
    (own-chunk seat c.args.receipt.now member part c.in-Chunk.writer bytes c.chunk.new.self one.result c.if-writer-part.true fed)

pub returns-in-Slots-clause-fed : goal.returns-in-Slots-clause-fed
returns-in-Slots-clause-fed c = λ member h.
    let part = c.args.part.now in
    let seat = seat_of part c.args.meta.now in
    let piece = slot_piece (slot_of c.in-Slots.datagram.now (reader_slot part)) in
    let one = c.of_one in
    let fed = one-fed seat c.args.receipt.now member piece c.args.self.now c.slot.new.self c.slot.result one.result h (c.slot.ensures.case member h)
    one.ensures.matched one.ensures.bad one.ensures.findings in
    subst (λ (payload : Payload). IsFed seat (fold (account_on seat c.args.receipt.now) (no_account member) (pieces part (payload_in payload))) c.slot.new.self one.result) (sym c.in-Slots.is) fed
