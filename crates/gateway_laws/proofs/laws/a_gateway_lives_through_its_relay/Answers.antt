use Rattle.gateway_laws.proofs.Living.{lived-seconds, lived-versions, sources-are}
use Rattle.gateway_laws.proofs.laws.a_gateway_lives_through_its_relay.Goals as goal

pub returns : goal.returns
returns c = record { session = lived-seconds; versions = lived-versions; sources = sources-are }
