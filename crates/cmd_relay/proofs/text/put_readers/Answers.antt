use Rattle.std.specs.Prelude.{flat_map}
use Rattle.std.specs.List.{range_with_len}
use Rattle.gateway_core.specs.Lived.{session_steps}
use Rattle.gateway_core.specs.Holding.{sources_of}
use Rattle.cmd_relay.specs.Texts.{IsReaderText, kept_by_index, places_in_read_group}
use Rattle.cmd_relay.proofs.Lining.{wrote-group}
use Rattle.cmd_relay.proofs.text.put_readers.Goals as goal

pub loop-r-preserved : goal.loop-r-preserved
loop-r-preserved c = λ lived stands.
    let second = c.args.second.now in
    let places = sources_of c.args.gateway.now in
    wrote-group (IsReaderText second (session_steps places lived) (kept_by_index places lived)) (places_in_read_group second) c.loop-r.r c.args.out.now.items _
    (c.in_ok-put_read_group.ensures lived (flat_map (places_in_read_group second) (range_with_len 0 c.loop-r.r)) c.args.out.now.items stands (c.loop-r.invariant lived stands))
