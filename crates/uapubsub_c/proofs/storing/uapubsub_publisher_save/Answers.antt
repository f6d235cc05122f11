use Rattle.std.proofs.Common.{Err, subst}
use Rattle.uapubsub_c.specs.Answers.{OfPublisher}
use Rattle.uapubsub_c.specs.Storing.{Saves}
use Rattle.uapubsub_c.specs.declared.kept.Kept.{Kept}
use Rattle.uapubsub_c.specs.declared.status.Status.TheVariants.{Closed}
use Rattle.uapubsub_c.proofs.Answering.{answered, answered-closed}
use Rattle.uapubsub_c.proofs.storing.uapubsub_publisher_save.Goals as goal

pub returns-in_default-clause-saves : goal.returns-in_default-clause-saves
returns-in_default-clause-saves c =
    let closed =
    answered-closed (OfPublisher (Saves c.args.ahead c.args.buffer.now c.args.buffer.now 0)) c.args.handle.now c.take.new.self
    c.in_default.ensures.ready c.in_default.ensures.was_closed c.in_default.ensures.none in
    record { answer = Err Closed; is = closed; number_is = c.number.ensures }

pub returns-clause-saves : goal.returns-clause-saves
returns-clause-saves c =
    let moves = OfPublisher (Saves c.args.ahead c.args.buffer.now c.save_of-answer.new.buffer c.save_of-answer.new.count) in
    let moved = subst (λ (kept : Kept). moves kept c.save_of-answer.result c.save_of-answer.new.kept) c.deref_mut.ensures.value c.save_of-answer.ensures.saves in
    let told =
    answered moves c.args.handle.now c.put.new.self c.in-Some.kept.value c.save_of-answer.new.kept c.save_of-answer.result
    c.in-Some.ensures.held c.put.ensures.ready c.put.ensures.held moved in
    record { answer = c.save_of-answer.result; is = told; number_is = c.number_of.ensures }
