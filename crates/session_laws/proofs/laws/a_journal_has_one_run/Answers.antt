use Rattle.session_laws.proofs.Versions.Dividing.{one-run}
use Rattle.session_laws.proofs.laws.a_journal_has_one_run.Goals as goal

pub returns : goal.returns
returns c = one-run
