use Rattle.std.proofs.Common.{◌-◌, refl}
use Rattle.cases_group.proofs.Turns.{ticked}
use Rattle.cases_group.proofs.turners.Turner.turn.Goals as goal

pub returns-clause-turner : goal.returns-clause-turner
returns-clause-turner c =
    let old = c.args.self.now in
    let tick = c.tick-count.ensures in
    ticked c.args.config.now c.args.metas.now old (record { part = old.part; group = c.tick-count.new.self; left = old.left - 1 }) c.requires.turner
    (c.if-not-may_turn.ensures.left refl) refl refl tick.index tick.made tick.goes_on
