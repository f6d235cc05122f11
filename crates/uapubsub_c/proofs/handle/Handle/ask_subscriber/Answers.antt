use Rattle.std.proofs.Common.{subst}
use Rattle.std.specs.Fn.{FnOnceReturnsAt}
use Rattle.uapubsub_c.specs.Answers.{OfSubscriber, Stays}
use Rattle.uapubsub_c.specs.declared.kept.Kept.{Kept}
use Rattle.uapubsub_c.proofs.Answering.{answered}
use Rattle.uapubsub_c.proofs.handle.Handle.ask_subscriber.Goals as goal

pub returns : goal.returns
returns g c =
    answered (OfSubscriber (Stays (FnOnceReturnsAt g.F.FnOnce c.args.question))) c.args.self.now c.put.new.self c.in-Some.kept.value c.in-Some.kept.value
    c.ask_subscriber-answer.result c.in-Some.ensures.held c.put.ensures.ready c.put.ensures.held
    (subst (λ (kept : Kept). OfSubscriber (Stays (FnOnceReturnsAt g.F.FnOnce c.args.question)) kept c.ask_subscriber-answer.result kept) c.deref.ensures c.ask_subscriber-answer.ensures)
