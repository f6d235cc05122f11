use Rattle.std.proofs.Common.{◌≡◌, ◌<◌, ◌≤◌, ◌-◌, length, take}
use Rattle.std.specs.Prelude.{fold}
use Rattle.reader_group.specs.Members.{MemberValue, seat_of}
use Rattle.reader_group.specs.MemberWords.{IsMemberOf, HoldsRowsOf, IsFed}
use Rattle.reader_group.specs.Held.{listed, listed_at}
use Rattle.reader_group.specs.Notices.{no_account}
use Rattle.reader_group.proofs.Parts.{offered}
use Rattle.reader_group.proofs.member.Member.messages.Given as goal

abbrev pub invariant-loop-index : goal.invariant-loop-index
invariant-loop-index l = record {
  fed : (member : MemberValue) → IsMemberOf (seat_of l.part l.meta) member l.fn.self
      → IsFed (seat_of l.part l.meta) (fold (offered (seat_of l.part l.meta) l.receipt l.part.writer) (no_account member) (take l.index (listed l.messages))) l.self l.account;
  reader : HoldsRowsOf l.meta l.self;
  matched : l.account.tally.matched ≤ l.index;
  bad : l.account.tally.bad ≤ l.index;
  within : l.index ≤ length l.messages.parts.now;
  own : l.index < length l.messages.parts.now → (listed_at l.messages l.index).0 ≡ l.part.writer;
}

abbrev pub decreases-loop-index : goal.decreases-loop-index
decreases-loop-index l = length l.messages.parts.now - l.index
