use Rattle.std.proofs.Common.{subst}
use Rattle.std.specs.Fn.{FnOnceReturnsAtMut}
use Rattle.uapubsub_c.specs.Answers.{OfPublisher}
use Rattle.uapubsub_c.specs.declared.kept.Kept.{Kept}
use Rattle.uapubsub_c.proofs.Answering.{answered}
use Rattle.uapubsub_c.proofs.handle.Handle.publisher.Goals as goal

pub returns : goal.returns
returns g c =
    answered (OfPublisher (FnOnceReturnsAtMut g.F.FnOnce c.args.moving)) c.args.self.now c.put.new.self c.in-Some.kept.value c.publisher-answer.new.self c.publisher-answer.result
    c.in-Some.ensures.held c.put.ensures.ready c.put.ensures.held
    (subst (λ (kept : Kept). OfPublisher (FnOnceReturnsAtMut g.F.FnOnce c.args.moving) kept c.publisher-answer.result c.publisher-answer.new.self)
    c.deref_mut.ensures.value c.publisher-answer.ensures.moved)
