use Rattle.key_service.proofs.Served.{answer_is_pullable, answer_is_reply}
use Rattle.key_service.proofs.service.Service.get.Goals as goal

pub returns-clause-reply : goal.returns-clause-reply
returns-clause-reply c =
    answer_is_reply c.args.self.now.ring c.args.now c.args.start c.args.count c.answer.result c.answer.ensures.answer
    (record { accepted = c.answer.ensures.accepted; served = c.args.self.now.served; in_memory = c.answer.ensures.in_memory })

pub returns-clause-pullable : goal.returns-clause-pullable
returns-clause-pullable c =
    λ zero_start. answer_is_pullable c.args.self.now.ring c.args.now c.args.start c.args.count c.answer.result c.answer.ensures.answer zero_start
    (record { accepted = c.answer.ensures.accepted; served = c.args.self.now.served; in_memory = c.answer.ensures.in_memory })

pub returns-clause-served : goal.returns-clause-served
returns-clause-served c = record { accepted = c.answer.ensures.accepted; served = c.args.self.now.served; in_memory = c.answer.ensures.in_memory }
