use Rattle.std.proofs.Common.{subst}
use Rattle.std.specs.Fn.{FnOnceReturnsAt}
use Rattle.uapubsub_c.specs.Answers.{OfPublisher, Stays}
use Rattle.uapubsub_c.specs.declared.kept.Kept.{Kept}
use Rattle.uapubsub_c.proofs.Answering.{answered}
use Rattle.uapubsub_c.proofs.handle.Handle.ask_publisher.Goals as goal

pub returns : goal.returns
returns g c =
    answered (OfPublisher (Stays (FnOnceReturnsAt g.F.FnOnce c.args.question))) c.args.self.now c.put.new.self c.in-Some.kept.value c.in-Some.kept.value
    c.ask_publisher-answer.result c.in-Some.ensures.held c.put.ensures.ready c.put.ensures.held
    (subst (λ (kept : Kept). OfPublisher (Stays (FnOnceReturnsAt g.F.FnOnce c.args.question)) kept c.ask_publisher-answer.result kept) c.deref.ensures c.ask_publisher-answer.ensures)
