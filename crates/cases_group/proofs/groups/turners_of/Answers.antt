use Rattle.std.proofs.Common.{sym, subst}
use Rattle.std.proofs.lemmas.List.Elements.{All-push}
use Rattle.cases_group.specs.Kept.{AreTurners, IsTurner}
use Rattle.cases_group.proofs.groups.turners_of.Goals as goal

pub loop-index-preserved : goal.loop-index-preserved
loop-index-preserved c =
    subst (AreTurners c.args.config.now c.args.metas.now) (sym c.in_ok-push.ensures.items)
    (All-push (IsTurner c.args.config.now c.args.metas.now) c.loop-index.turners.items c.in_ok-new.field-0 c.loop-index.invariant c.in_ok-new.ensures)
