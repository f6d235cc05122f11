use Rattle.gateway_laws.proofs.Joined.{made-once}
use Rattle.gateway_laws.proofs.laws.a_store_is_made_once.Goals as goal

pub returns : goal.returns
returns c = made-once
