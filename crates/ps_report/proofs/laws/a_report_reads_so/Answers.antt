use Rattle.ps_report.proofs.FirstRun.{first_run_closed, first_run_told, first_run_report}
use Rattle.ps_report.proofs.laws.a_report_reads_so.Goals as goal

pub returns-clause-closed : goal.returns-clause-closed
returns-clause-closed c = first_run_closed

pub returns-clause-told : goal.returns-clause-told
returns-clause-told c = first_run_told

pub returns-clause-text : goal.returns-clause-text
returns-clause-text c = first_run_report
