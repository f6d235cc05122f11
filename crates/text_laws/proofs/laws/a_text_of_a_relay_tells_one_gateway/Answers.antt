use Rattle.text_laws.proofs.Gateways.{gateways-told}
use Rattle.text_laws.proofs.laws.a_text_of_a_relay_tells_one_gateway.Goals as goal

pub returns : goal.returns
returns c = gateways-told
