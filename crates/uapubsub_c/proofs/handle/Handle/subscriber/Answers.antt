use Rattle.std.proofs.Common.{subst}
use Rattle.std.specs.Fn.{FnOnceReturnsAtMut}
use Rattle.uapubsub_c.specs.Answers.{OfSubscriber}
use Rattle.uapubsub_c.specs.declared.kept.Kept.{Kept}
use Rattle.uapubsub_c.proofs.Answering.{answered}
use Rattle.uapubsub_c.proofs.handle.Handle.subscriber.Goals as goal

pub returns : goal.returns
returns g c =
    answered (OfSubscriber (FnOnceReturnsAtMut g.F.FnOnce c.args.moving)) c.args.self.now c.put.new.self c.in-Some.kept.value c.subscriber-answer.new.self c.subscriber-answer.result
    c.in-Some.ensures.held c.put.ensures.ready c.put.ensures.held
    (subst (λ (kept : Kept). OfSubscriber (FnOnceReturnsAtMut g.F.FnOnce c.args.moving) kept c.subscriber-answer.result c.subscriber-answer.new.self)
    c.deref_mut.ensures.value c.subscriber-answer.ensures.moved)
