use Rattle.std.proofs.Common.{Err, subst}
use Rattle.uapubsub_c.specs.Answers.{OfPublisher}
use Rattle.uapubsub_c.specs.Nexts.{ComesNext}
use Rattle.uapubsub_c.specs.declared.kept.Kept.{Kept}
use Rattle.uapubsub_c.specs.declared.status.Status.TheVariants.{Closed}
use Rattle.uapubsub_c.proofs.Answering.{answered, answered-closed}
use Rattle.uapubsub_c.proofs.publishing.uapubsub_publisher_next.Goals as goal

pub returns-in_default-clause-comes : goal.returns-in_default-clause-comes
returns-in_default-clause-comes c =
    let closed =
    answered-closed (OfPublisher (ComesNext c.args.now c.args.buffer.now c.args.buffer.now 0)) c.args.handle.now c.take.new.self
    c.in_default.ensures.ready c.in_default.ensures.was_closed c.in_default.ensures.none in
    record { answer = Err Closed; is = closed; number_is = c.number.ensures }

pub returns-clause-comes : goal.returns-clause-comes
returns-clause-comes c =
    let moves = OfPublisher (ComesNext c.args.now c.args.buffer.now c.next_of-answer.new.buffer c.next_of-answer.new.count) in
    let moved = subst (λ (kept : Kept). moves kept c.next_of-answer.result c.next_of-answer.new.kept) c.deref_mut.ensures.value c.next_of-answer.ensures.comes in
    let told =
    answered moves c.args.handle.now c.put.new.self c.in-Some.kept.value c.next_of-answer.new.kept c.next_of-answer.result
    c.in-Some.ensures.held c.put.ensures.ready c.put.ensures.held moved in
    record { answer = c.next_of-answer.result; is = told; number_is = c.number_of.ensures }
