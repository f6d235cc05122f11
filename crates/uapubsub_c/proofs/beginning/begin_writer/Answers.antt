use Rattle.std.proofs.Common.{ℕ, subst}
use Rattle.device.specs.declared.publisher.Publisher.{Publisher}
use Rattle.uapubsub_c.specs.Beginning.{HasBegunBefore, HasWriterIn}
use Rattle.uapubsub_c.proofs.beginning.begin_writer.Goals as goal

pub returns-then-has_writer-clause-begins : goal.returns-then-has_writer-clause-begins
returns-then-has_writer-clause-begins c =
    let there = subst (λ (publisher : Publisher). HasWriterIn c.in-Some.group c.in-Some.writer publisher) c.if-begin_at.ensures.not c.if-has_writer.ensures.there in
    let before : HasBegunBefore c.in-Some.group c.in-Some.writer c.args.publisher.now = record { there = there; may_not = c.if-begin_at.ensures.refused } in
    (c.if-begin_at.ensures.not, subst (λ (places : ℕ × ℕ). HasBegunBefore places.0 places.1 c.args.publisher.now) c.in-Some.ensures.are before)
