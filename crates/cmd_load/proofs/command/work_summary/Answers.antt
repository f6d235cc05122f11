use Rattle.std.proofs.Common.{refl}
use Rattle.ps_report.specs.declared.closed.Closed.{Closed}
use Rattle.script_player.specs.Plays.{opening_of}
use Rattle.script_player.proofs.Openings.{as-failed}
use Rattle.cmd_base.proofs.Ends.{over-wire, uses-wire}
use Rattle.cmd_load.specs.Loads.{OpensForWork}
use Rattle.cmd_load.proofs.Told.{opens_for, summarized}
use Rattle.cmd_load.proofs.command.work_summary.Goals as goal

pub returns-in-Ok-clause-summary : goal.returns-in-Ok-clause-summary
returns-in-Ok-clause-summary g c =
    summarized _ _ _ _ _ _ _ c.requires.config c.requires.script c.requires.least c.requires.most c.in_ok-closed.ensures.ran c.closed_sessions_are_reported.ensures (c.in_ok-closed.ensures.over.opened refl) c.ticks-ticks.ensures c.in-Ok.ensures

pub returns-in-Ok-clause-link : goal.returns-in-Ok-clause-link
returns-in-Ok-clause-link g c =
    uses-wire (OpensForWork c.args.n) (opening_of c.args.config.now c.args.script.now) _ _ _ _
    (over-wire g.A.Link.told g.A.Link.patience g.A.Link.opened_with g.A.Link.faults g.A.Link.made g.A.Link.openings _ _ _ _ _ c.in_ok-closed.ensures.over) (λ is. refl) (λ is. absurd cc)
    (opens_for _ _ _ _ c.requires.config c.requires.script refl)

pub returns-in_err-closed-clause-link : goal.returns-in_err-closed-clause-link
returns-in_err-closed-clause-link g c =
    let same = as-failed {U = Closed} c.from_residual.result c.in_err-closed.field-0.0 c.from_residual.ensures.1 in
    uses-wire (OpensForWork c.args.n) (opening_of c.args.config.now c.args.script.now) _ _ _ _
    (over-wire g.A.Link.told g.A.Link.patience g.A.Link.opened_with g.A.Link.faults g.A.Link.made g.A.Link.openings _ _ _ _ _ c.in_err-closed.ensures.over) same.0 same.1
    (opens_for _ _ _ _ c.requires.config c.requires.script refl)

pub returns-clause-link : goal.returns-clause-link
returns-clause-link g c =
    uses-wire (OpensForWork c.args.n) (opening_of c.args.config.now c.args.script.now) _ _ _ _
    (over-wire g.A.Link.told g.A.Link.patience g.A.Link.opened_with g.A.Link.faults g.A.Link.made g.A.Link.openings _ _ _ _ _ c.in_ok-closed.ensures.over) (λ is. refl) (λ is. absurd cc)
    (opens_for _ _ _ _ c.requires.config c.requires.script refl)
