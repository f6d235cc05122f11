use Rattle.session_laws.proofs.Closing.Completing.{closes-newest, closes-once}
use Rattle.session_laws.proofs.premises.a_session_closes_once_with_its_newest_versions.Goals as goal

pub returns : goal.returns
returns c = record { once = closes-once; newest = closes-newest }
