use Rattle.frame_codec.proofs.Lengths.{frame_short, frame_some, alive_short}
use Rattle.frame_codec.proofs.FaultLaws.{zeros-refused}
use Rattle.frame_codec.proofs.laws.frames_are_not_too_long.Goals as goal

pub returns-clause-long : goal.returns-clause-long
returns-clause-long c = λ meta frame is_meta is. frame_short meta frame is_meta is.content

pub returns-clause-some : goal.returns-clause-some
returns-clause-some c = frame_some

pub returns-clause-alive : goal.returns-clause-alive
returns-clause-alive c = alive_short

pub returns-clause-zeros : goal.returns-clause-zeros
returns-clause-zeros c = zeros-refused
