use Rattle.std.proofs.Common.{rules}
use Rattle.frame_codec.proofs.writing.put_frame_at.Goals as goal

pub returns-clause-written : goal.returns-clause-written
returns-clause-written c = let written = c.put_frame.ensures.written in search (rules, written)

pub returns-clause-end : goal.returns-clause-end
returns-clause-end c = c.put_frame.ensures.moved
