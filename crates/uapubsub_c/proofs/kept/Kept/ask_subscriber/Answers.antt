use Rattle.std.proofs.Common.{refl, subst, sym}
use Rattle.std.specs.Fn.{FnOnceReturnsAt}
use Rattle.uapubsub_c.specs.Answers.{OfSubscriber, Stays}
use Rattle.uapubsub_c.specs.declared.kept.Kept.{Kept}
use Rattle.uapubsub_c.proofs.kept.Kept.ask_subscriber.Goals as goal

pub returns-in-Subscriber : goal.returns-in-Subscriber
returns-in-Subscriber g c =
    subst (λ (kept : Kept). OfSubscriber (Stays (FnOnceReturnsAt g.F.FnOnce c.args.question)) kept c.question.result kept) (sym c.in-Subscriber.is)
    (record { same = refl; so = (_, c.question.ensures, refl) })
