use Rattle.std.proofs.Common.{rules}
use Rattle.frame_codec.proofs.writing.put_at.Goals as goal

pub returns-clause-written : goal.returns-clause-written
returns-clause-written c = λ d. let put = c.put_any.ensures.put d in let written = put.written in search (rules, written)

pub returns-clause-end : goal.returns-clause-end
returns-clause-end c = λ d. let put = c.put_any.ensures.put d in put.moved
