use Rattle.std.proofs.Common.{arith}
use Rattle.ua_base.proofs.Links.{KeepsLink-more, KeepsLink-refl}
use Rattle.script_player.specs.Passing.{nothings_by}
use Rattle.script_runner.proofs.conductor.conduct_line.Goals as goal

pub returns-in_default-clause-link : goal.returns-in_default-clause-link
returns-in_default-clause-link g c =
    KeepsLink-more g.L.Link.told g.L.Link.patience g.L.Link.opened_with g.L.Link.faults g.L.Link.made g.L.Link.openings 0 (nothings_by c.args.act.now) c.args.link.now c.args.link.now (omega arith)
    (KeepsLink-refl g.L.Link.told g.L.Link.patience g.L.Link.opened_with g.L.Link.faults g.L.Link.made g.L.Link.openings c.args.link.now)
