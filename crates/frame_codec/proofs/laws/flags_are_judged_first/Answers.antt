use Rattle.frame_codec.proofs.FaultLaws.{flags1-refused, flags2-refused, front-refused}
use Rattle.frame_codec.proofs.laws.flags_are_judged_first.Goals as goal

pub returns-clause-flags1 : goal.returns-clause-flags1
returns-clause-flags1 c = flags1-refused

pub returns-clause-flags2 : goal.returns-clause-flags2
returns-clause-flags2 c = flags2-refused

pub returns-clause-frames : goal.returns-clause-frames
returns-clause-frames c = front-refused
