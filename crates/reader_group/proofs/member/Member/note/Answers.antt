use Rattle.std.proofs.Common.{subst}
use Rattle.frame_codec.specs.declared.frame.Frame.{Frame}
use Rattle.reader_group.specs.Members.{noted, confirmed_by}
use Rattle.reader_group.specs.MemberWords.{IsMemberOf}
use Rattle.reader_group.proofs.member.Member.note.Goals as goal

pub returns-clause-member : goal.returns-clause-member
returns-clause-member c = λ seat member h.
    let after = noted c.args.now c.args.outcome member in
    subst (λ (frame : Frame). IsMemberOf seat (confirmed_by c.args.now c.args.outcome frame.number after) c.confirm.new.self) c.time.ensures.frame
    (c.confirm.ensures.member seat after (c.time.ensures.member seat member h))
