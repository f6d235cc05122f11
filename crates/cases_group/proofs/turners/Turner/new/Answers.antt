use Rattle.cases_group.proofs.Turns.{new-turner}
use Rattle.cases_group.proofs.turners.Turner.new.Goals as goal

pub returns : goal.returns
returns c =
    new-turner c.args.config.now c.args._metas.now (record { part = c.part_at.result; group = c.in-Ok.group; left = 64 }) c.args.index c.requires.good
    c.requires.metas c.requires.index c.part_at.ensures c.in-Ok.ensures.index c.in-Ok.ensures.made c.in-Ok.ensures.goes_on
