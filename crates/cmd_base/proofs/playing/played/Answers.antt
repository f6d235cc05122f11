use Rattle.std.proofs.Common.{refl}
use Rattle.ps_report.specs.declared.closed.Closed.{Closed}
use Rattle.script_player.specs.Plays.{opening_of}
use Rattle.script_player.proofs.Openings.{as-failed, for-memory, performed-opened, performs-as}
use Rattle.cmd_base.proofs.playing.played.Goals as goal

pub returns-in_err-closed-clause-over : goal.returns-in_err-closed-clause-over
returns-in_err-closed-clause-over g c =
    let same = as-failed {U = Closed} c.from_residual.result c.in_err-closed.field-0.0 c.from_residual.ensures.1 in
    performs-as g.A.Link.told g.A.Link.patience g.A.Link.opened_with g.A.Link.faults g.A.Link.made g.A.Link.openings (opening_of c.args.accepted.now.config c.args.accepted.now.script) _ _ _ _ _ _
    same.0 same.1 c.in_err-closed.ensures.over

pub returns-in_err-report-clause-over : goal.returns-in_err-report-clause-over
returns-in_err-report-clause-over g c =
    let none = for-memory c.from_residual-in_err-report.result c.from_residual-in_err-report.ensures.1 in
    performs-as g.A.Link.told g.A.Link.patience g.A.Link.opened_with g.A.Link.faults g.A.Link.made g.A.Link.openings (opening_of c.args.accepted.now.config c.args.accepted.now.script) _ _ _ _ _ _
    (λ is. refl) (λ is. absurd (none.1 is)) c.in_ok-closed.ensures.over

pub returns-clause-over : goal.returns-clause-over
returns-clause-over g c =
    performs-as g.A.Link.told g.A.Link.patience g.A.Link.opened_with g.A.Link.faults g.A.Link.made g.A.Link.openings (opening_of c.args.accepted.now.config c.args.accepted.now.script) _ _ _ _ _ _
    (λ is. refl) (λ is. absurd (performed-opened is)) c.in_ok-closed.ensures.over
