use Rattle.gateway_core.specs.Lived.{session_steps}
use Rattle.gateway_core.specs.Holding.{sources_of}
use Rattle.cmd_relay.specs.Texts.{kept_by_index}
use Rattle.cmd_relay.proofs.TextOf.{text-is}
use Rattle.cmd_relay.proofs.text.text_of.Goals as goal

pub returns : goal.returns
returns c = λ lived stands.
    let from = sources_of c.args.gateway.now in
    text-is c.args.first.now c.args.closed.now c.args.second.now (session_steps from lived) (kept_by_index from lived)
    c.in_ok-out.out.items c.put_writers.new.out.items c.put_readers.new.out.items c.put_link.new.out.items c.put_end.new.out.items c.counts.result
    c.in_ok-out.ensures (c.in_ok-put_writers.ensures lived stands) (c.in_ok-put_readers.ensures lived stands) (c.counts.ensures.counts c.args.second.now lived stands)
    c.in_ok-put_link.ensures c.in_ok-put_end.ensures
