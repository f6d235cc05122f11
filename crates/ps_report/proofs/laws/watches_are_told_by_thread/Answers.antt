use Rattle.ps_report.proofs.FirstRun.{in_order_is_told, out_of_order_is_not_told}
use Rattle.ps_report.proofs.laws.watches_are_told_by_thread.Goals as goal

pub returns-clause-in_order : goal.returns-clause-in_order
returns-clause-in_order c = in_order_is_told

pub returns-clause-out_of_order : goal.returns-clause-out_of_order
returns-clause-out_of_order c = out_of_order_is_not_told
