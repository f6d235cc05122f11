use Rattle.std.proofs.Common.{refl, rules}
use Rattle.key_service.proofs.Laid.{taken_first}
use Rattle.cases_key.proofs.read_back.written_reply.Goals as goal

pub returns-in-Ok-clause-reply : goal.returns-in-Ok-clause-reply
returns-in-Ok-clause-reply c = let taken = taken_first _ _ c.write_reply.new.pen refl c.in-Ok.ensures in search (rules, taken)
