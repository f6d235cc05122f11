use Rattle.std.proofs.Common.{Err, subst}
use Rattle.uapubsub_c.specs.Answers.{OfSubscriber}
use Rattle.uapubsub_c.specs.Taking.{Takes}
use Rattle.uapubsub_c.specs.declared.kept.Kept.{Kept}
use Rattle.uapubsub_c.specs.declared.status.Status.TheVariants.{Closed}
use Rattle.uapubsub_c.proofs.Answering.{answered, answered-closed}
use Rattle.uapubsub_c.proofs.taking.uapubsub_subscriber_take.Goals as goal

pub returns-in_default-clause-takes : goal.returns-in_default-clause-takes
returns-in_default-clause-takes c =
    let closed =
    answered-closed (OfSubscriber (Takes c.args.now c.args.bytes.now c.args.takings.now)) c.args.handle.now c.take.new.self
    c.in_default.ensures.ready c.in_default.ensures.was_closed c.in_default.ensures.none in
    record { answer = Err Closed; is = closed; number_is = c.number.ensures }

pub returns-clause-takes : goal.returns-clause-takes
returns-clause-takes c =
    let moves = OfSubscriber (Takes c.args.now c.args.bytes.now c.take_of-answer.new.takings) in
    let moved = subst (λ (kept : Kept). moves kept c.take_of-answer.result c.take_of-answer.new.kept) c.deref_mut.ensures.value c.take_of-answer.ensures.takes in
    let told =
    answered moves c.args.handle.now c.put.new.self c.in-Some.kept.value c.take_of-answer.new.kept c.take_of-answer.result
    c.in-Some.ensures.held c.put.ensures.ready c.put.ensures.held moved in
    record { answer = c.take_of-answer.result; is = told; number_is = c.number_of.ensures }
