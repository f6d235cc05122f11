use Rattle.std.proofs.Common.{refl, subst, sym}
use Rattle.std.specs.Fn.{FnOnceReturnsAt}
use Rattle.uapubsub_c.specs.Answers.{OfPublisher, Stays}
use Rattle.uapubsub_c.specs.declared.kept.Kept.{Kept}
use Rattle.uapubsub_c.proofs.kept.Kept.ask_publisher.Goals as goal

pub returns-in-Publisher : goal.returns-in-Publisher
returns-in-Publisher g c =
    subst (λ (kept : Kept). OfPublisher (Stays (FnOnceReturnsAt g.F.FnOnce c.args.question)) kept c.question.result kept) (sym c.in-Publisher.is)
    (record { same = refl; so = (_, c.question.ensures, refl) })
