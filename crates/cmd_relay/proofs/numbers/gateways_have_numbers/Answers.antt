use Rattle.gateway_core.specs.Lived.{session_steps}
use Rattle.gateway_core.specs.Holding.{sources_of}
use Rattle.cmd_relay.specs.Texts.{kept_by_index}
use Rattle.cmd_relay.proofs.Seen.{gateway-seen}
use Rattle.cmd_relay.proofs.numbers.gateways_have_numbers.Goals as goal

pub returns : goal.returns
returns c = λ lived stands.
    let from = sources_of c.args.gateway.now in
    gateway-seen c.args.second.now (session_steps from lived) (kept_by_index from lived) (c.see_groups.ensures lived stands) (c.see_read_groups.ensures lived stands)
