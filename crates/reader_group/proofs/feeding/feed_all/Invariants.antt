use Rattle.std.proofs.Common.{◌≡◌, List, length}
use Rattle.reader_group.specs.Held.{payload_in}
use Rattle.reader_group.specs.Members.{MemberValue}
use Rattle.reader_group.specs.Groups.{AreMembers}
use Rattle.reader_group.specs.Settings.{setting_by}
use Rattle.reader_group.proofs.Brought.{feeding, FedBelow}
use Rattle.reader_group.proofs.Noticing.{accounting, NotedBelow}
use Rattle.reader_group.proofs.feeding.feed_all.Given as goal

abbrev pub invariant-loop-index : goal.invariant-loop-index
invariant-loop-index l = record {
  fed : FedBelow (setting_by l.config l.group).seats (feeding l.receipt l.raised l.on (payload_in l.payload)) l.fn.members l.index l.members l.tally;
  noted : (values : List MemberValue) → AreMembers (setting_by l.config l.group).seats values l.fn.members
      → NotedBelow (setting_by l.config l.group).seats values (accounting l.receipt l.raised l.on (payload_in l.payload)) l.receipt.moment l.fn.notices l.index l.notices;
  notices : length l.notices ≡ length l.fn.notices;
}
