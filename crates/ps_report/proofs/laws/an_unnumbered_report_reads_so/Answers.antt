use Rattle.ps_report.proofs.FirstRun.{unnumbered_run_closed, unnumbered_run_told, unnumbered_run_report}
use Rattle.ps_report.proofs.laws.an_unnumbered_report_reads_so.Goals as goal

pub returns-clause-closed : goal.returns-clause-closed
returns-clause-closed c = unnumbered_run_closed

pub returns-clause-told : goal.returns-clause-told
returns-clause-told c = unnumbered_run_told

pub returns-clause-text : goal.returns-clause-text
returns-clause-text c = unnumbered_run_report
