use Rattle.reader_group.specs.Members.{expired}
use Rattle.reader_group.specs.MemberWords.{IsMemberOf}
use Rattle.reader_group.proofs.Each.{held_set}
use Rattle.reader_group.proofs.feeding.expire_at.Goals as goal

pub returns-clause-member : goal.returns-clause-member
returns-clause-member c = λ seat value holds.
    held_set (IsMemberOf seat (expired seat.part.timeout c.args.now value)) c.args.members.now c.args.index c.expire.new.self c.requires
    (c.expire.ensures.member seat value (holds c.index-members-index.result))
