use Rattle.ua_base.proofs.Links.{KeepsLink-then}
use Rattle.ua_base.proofs.laws.calls_in_a_row_keep_a_link.Goals as goal

pub returns : goal.returns
returns g c first next last one other = KeepsLink-then g.L.Link.told g.L.Link.patience g.L.Link.opened_with g.L.Link.faults g.L.Link.made g.L.Link.openings one other first next last
