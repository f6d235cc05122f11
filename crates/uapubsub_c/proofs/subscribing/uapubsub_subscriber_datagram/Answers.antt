use Rattle.std.proofs.Common.{Err, subst}
use Rattle.uapubsub_c.specs.Answers.{OfSubscriber}
use Rattle.uapubsub_c.specs.Reading.{Listens}
use Rattle.uapubsub_c.specs.declared.kept.Kept.{Kept}
use Rattle.uapubsub_c.specs.declared.status.Status.TheVariants.{Closed}
use Rattle.uapubsub_c.proofs.Answering.{answered, answered-closed}
use Rattle.uapubsub_c.proofs.subscribing.uapubsub_subscriber_datagram.Goals as goal

pub returns-in_default-clause-listens : goal.returns-in_default-clause-listens
returns-in_default-clause-listens c =
    let closed =
    answered-closed (OfSubscriber (Listens c.args.group c.args.now c.args.bytes.now c.args.bytes.now c.args.taken.now)) c.args.handle.now c.take.new.self
    c.in_default.ensures.ready c.in_default.ensures.was_closed c.in_default.ensures.none in
    record { answer = Err Closed; is = closed; number_is = c.number.ensures }

pub returns-clause-listens : goal.returns-clause-listens
returns-clause-listens c =
    let moves = OfSubscriber (Listens c.args.group c.args.now c.args.bytes.now c.datagram_in-answer.new.bytes c.datagram_in-answer.new.taken) in
    let moved = subst (λ (kept : Kept). moves kept c.datagram_in-answer.result c.datagram_in-answer.new.kept) c.deref_mut.ensures.value c.datagram_in-answer.ensures.listens in
    let told =
    answered moves c.args.handle.now c.put.new.self c.in-Some.kept.value c.datagram_in-answer.new.kept c.datagram_in-answer.result
    c.in-Some.ensures.held c.put.ensures.ready c.put.ensures.held moved in
    record { answer = c.datagram_in-answer.result; is = told; number_is = c.number_of.ensures }
