use Rattle.std.proofs.lemmas.List.Elements.{All-set}
use Rattle.cases_group.specs.Kept.{IsTurner}
use Rattle.cases_group.proofs.groups.refresh_all.Goals as goal

pub loop-index-preserved : goal.loop-index-preserved
loop-index-preserved c =
    All-set (IsTurner c.args.config.now c.args.metas.now) c.loop-index.groups.items c.loop-index.index c.refresh_all.new.self c.refresh_all.ensures c.loop-index.invariant
