use Rattle.std.proofs.Common.{Err, refl, sym, ap}
use Rattle.cmd_base.proofs.Ends.{ends_as, ends_unplayed, over-wire}
use Rattle.cmd_lanes.proofs.command.lanes_by.Goals as goal

pub returns-clause-ends : goal.returns-clause-ends
returns-clause-ends g c =
    let failed = c.in-Err-play_lanes.ensures in
    ends_as _ _ _ _ _ _ _ _ _ _ _ c.status_of.ensures
    (ends_unplayed _ _ _ c.in-Err-play_lanes.end _ _ _ _ _ _ _ _ c.in-Ok.ensures.accepts (sym c.in_default.ensures) (over-wire g.A.Link.told g.A.Link.patience g.A.Link.opened_with g.A.Link.faults g.A.Link.made g.A.Link.openings _ _ _ _ _ failed.over) (λ is. ap Err is)
    (c.in-Ok.ensures.folder.files, c.in-Ok.ensures.folder.counted) refl)
