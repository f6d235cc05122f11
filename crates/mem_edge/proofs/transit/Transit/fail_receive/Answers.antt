use Rattle.std.proofs.Common.{arith}
use Rattle.mem_edge.specs.declared.mark.Answer.TheVariants as answer
use Rattle.mem_edge.specs.Transits.{datagram_in}
use Rattle.mem_edge.proofs.Kept.{kept_receive_failed, marked_more}
use Rattle.mem_edge.proofs.transit.Transit.fail_receive.Goals as goal

pub invariant_of-self-clause-marked : goal.invariant_of-self-clause-marked
invariant_of-self-clause-marked c = marked_more _ _ _ _ answer.ReceiveFailed c.note.ensures.items (omega arith) (omega arith) c.args.self.now.marked

pub invariant_of-self-clause-kept : goal.invariant_of-self-clause-kept
invariant_of-self-clause-kept c = kept_receive_failed _ _ _ _ _ _ _ (c.note.ensures.entry (datagram_in c.args.self.now) _) c.args.self.now.kept
