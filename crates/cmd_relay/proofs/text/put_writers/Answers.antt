use Rattle.std.specs.Prelude.{flat_map}
use Rattle.std.specs.List.{range_with_len}
use Rattle.gateway_core.specs.Lived.{session_steps}
use Rattle.gateway_core.specs.Holding.{sources_of}
use Rattle.cmd_relay.specs.Texts.{IsWriterText, places_in_group}
use Rattle.cmd_relay.proofs.Lining.{wrote-group}
use Rattle.cmd_relay.proofs.text.put_writers.Goals as goal

pub loop-g-preserved : goal.loop-g-preserved
loop-g-preserved c = λ lived stands.
    let second = c.args.second.now in
    wrote-group (IsWriterText second (session_steps (sources_of c.args.gateway.now) lived)) (places_in_group second) c.loop-g.g c.args.out.now.items _
    (c.in_ok-put_group.ensures lived (flat_map (places_in_group second) (range_with_len 0 c.loop-g.g)) c.args.out.now.items stands (c.loop-g.invariant lived stands))
