use Rattle.frame_codec.proofs.ReadingLaws.{message-few, front-few, written-few}
use Rattle.frame_codec.proofs.laws.fewer_bytes_are_short.Goals as goal

pub returns-clause-messages : goal.returns-clause-messages
returns-clause-messages c = message-few

pub returns-clause-fronts : goal.returns-clause-fronts
returns-clause-fronts c = front-few

pub returns-clause-written : goal.returns-clause-written
returns-clause-written c = written-few
