use Rattle.report_laws.proofs.Alone.{written_tells}
use Rattle.report_laws.proofs.laws.what_is_written_tells_one_session.Goals as goal

pub returns : goal.returns
returns c = written_tells
