use Rattle.std.proofs.Common.{◌≤◌, ℕ, Option, None, arith, vec_len}
use Rattle.std.proofs.lemmas.List.Elements.{All-push, All-same}
use Rattle.mem_edge.specs.Marks.{reach_send}
use Rattle.mem_edge.specs.declared.mark.Answer.TheVariants as answer
use Rattle.mem_edge.specs.Transits.{datagram_in}
use Rattle.mem_edge.proofs.Kept.{kept_failed, marked_more}
use Rattle.mem_edge.proofs.transit.Transit.fail_send.Goals as goal

pub invariant_of-self-2-clause-marked : goal.invariant_of-self-2-clause-marked
invariant_of-self-2-clause-marked c = marked_more _ _ _ _ answer.SendFailed (rw c.reserve.ensures.items at c.note.ensures.items) (omega arith) (omega arith) c.args.self.now.marked

pub invariant_of-self-2-clause-numbered : goal.invariant_of-self-2-clause-numbered
invariant_of-self-2-clause-numbered c =
    let P : Option ℕ → Type 0 = λ o. reach_send o ≤ vec_len c.args.self.now.sent in
    All-same P _ _ (rw c.reserve-2.ensures.items at c.number.ensures.items) (All-push P _ None c.args.self.now.numbered (omega arith))

pub invariant_of-self-2-clause-kept : goal.invariant_of-self-2-clause-kept
invariant_of-self-2-clause-kept c = kept_failed _ _ _ _ _ _ _ _ (rw c.reserve.ensures.items at (c.note.ensures.entry (datagram_in c.args.self.now) c.args.self.now.first)) (rw c.reserve-2.ensures.items at c.number.ensures.items) c.args.self.now.kept
