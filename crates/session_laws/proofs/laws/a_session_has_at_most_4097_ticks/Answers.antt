use Rattle.session_laws.proofs.Versions.Counts.{ticks-few}
use Rattle.session_laws.proofs.laws.a_session_has_at_most_4097_ticks.Goals as goal

pub returns : goal.returns
returns c = ticks-few
