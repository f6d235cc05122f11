use Rattle.std.proofs.Common.{ap, ◌∙◌}
use Rattle.frame_codec.specs.Reading.{frame_at}
use Rattle.reader_group.proofs.member.Member.read_joined.Goals as goal

pub returns-clause-member : goal.returns-clause-member
returns-clause-member c = λ seat member h.
    record { kept = h.kept; passed = h.passed; numbering = h.numbering; joining = h.joining; timer = h.timer; late = h.late; ready = h.ready; confirmed = h.confirmed }

pub returns-clause-answer : goal.returns-clause-answer
returns-clause-answer c = λ joining h. c.read_frame_into.ensures.answer ∙ ap (frame_at c.args.meta.now) (c.bytes.ensures joining h)
