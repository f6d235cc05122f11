use Rattle.report_laws.proofs.Alone.{begins_tell}
use Rattle.report_laws.proofs.laws.what_begins_with_a_report_tells_its_session.Goals as goal

pub returns : goal.returns
returns c = begins_tell
