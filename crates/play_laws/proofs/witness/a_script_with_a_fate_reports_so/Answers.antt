use Rattle.mem_edge.proofs.Fated.{told_fated}
use Rattle.play_laws.proofs.Reporting.{both-reports, first-reports, last-reports}
use Rattle.play_laws.proofs.witness.a_script_with_a_fate_reports_so.Goals as goal

pub returns : goal.returns
returns c = record { first = first-reports told_fated; last = last-reports told_fated; both = both-reports told_fated }
