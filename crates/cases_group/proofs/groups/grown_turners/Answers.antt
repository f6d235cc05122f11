use Rattle.std.proofs.Common.{sym, subst}
use Rattle.std.proofs.lemmas.List.Elements.{All-push}
use Rattle.cases_group.specs.Kept.{AreTurners, IsTurner}
use Rattle.cases_group.proofs.Longer.{all-first, all-rest}
use Rattle.cases_group.proofs.groups.grown_turners.Goals as goal

pub grown-requires-clause-turner : goal.grown-requires-clause-turner
grown-requires-clause-turner c =
    let old = IsTurner c.args.config.now c.args.old.now in
    all-first old c.in-Some.turner _ (subst (AreTurners c.args.config.now c.args.old.now) c.in-Some.ensures.steps.0 c.loop-turner.invariant.1)

pub loop-turner-preserved : goal.loop-turner-preserved
loop-turner-preserved c =
    let old = IsTurner c.args.config.now c.args.old.now in
    let new = IsTurner c.args.config.now c.args.new.now in (
      subst (AreTurners c.args.config.now c.args.new.now) (sym c.in_ok-push.ensures.items)
          (All-push new c.loop-turner.done.items c.in_ok-grown.field-0 c.loop-turner.invariant.0 c.in_ok-grown.ensures),
      all-rest old c.in-Some.turner _ (subst (AreTurners c.args.config.now c.args.old.now) c.in-Some.ensures.steps.0 c.loop-turner.invariant.1),
    )
