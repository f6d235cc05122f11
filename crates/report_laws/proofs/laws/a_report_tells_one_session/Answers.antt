use Rattle.report_laws.proofs.Telling.{report_tells}
use Rattle.report_laws.proofs.laws.a_report_tells_one_session.Goals as goal

pub returns : goal.returns
returns c = report_tells
