use Rattle.reader_group.specs.Members.{stopped}
use Rattle.reader_group.specs.MemberWords.{HoldsRowsOf, IsMemberOf}
use Rattle.reader_group.proofs.Each.{held_set}
use Rattle.reader_group.proofs.feeding.stop_at.Goals as goal

pub returns-clause-member : goal.returns-clause-member
returns-clause-member c = λ seat value holds.
    held_set (IsMemberOf seat (stopped c.args.why value)) c.args.members.now c.args.index c.stop.new.self c.requires
    (c.stop.ensures.member seat value (holds c.index-members-index.result))

pub returns-clause-reader : goal.returns-clause-reader
returns-clause-reader c = λ meta holds.
    held_set (HoldsRowsOf meta) c.args.members.now c.args.index c.stop.new.self c.requires (c.stop.ensures.reader meta (holds c.index-members-index.result))
