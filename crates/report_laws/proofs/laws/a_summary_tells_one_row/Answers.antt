use Rattle.report_laws.proofs.Summing.{summary_tells}
use Rattle.report_laws.proofs.laws.a_summary_tells_one_row.Goals as goal

pub returns : goal.returns
returns c = summary_tells
