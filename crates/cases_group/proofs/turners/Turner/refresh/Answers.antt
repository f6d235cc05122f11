use Rattle.std.proofs.Common.{refl}
use Rattle.writer_group.specs.Standing.{metas_for}
use Rattle.cases_group.proofs.Turns.{refreshed}
use Rattle.cases_group.proofs.turners.Turner.refresh.Goals as goal

pub returns-then-from-as_slice : goal.returns-then-from-as_slice
returns-then-from-as_slice c =
    let old = c.args.self.now in
    let part = old.part.now in
    let metas = metas_for part c.args._metas.now in
    refreshed c.args._config.now c.args._metas.now old (record { part = old.part; group = c.refresh.new.self; left = old.left }) c.requires refl refl
    c.refresh.ensures.index (c.refresh.ensures.made c.args._config.now part)
    (c.refresh.ensures.goes_on metas metas part old.left (λ writer within other. refl))
