use Rattle.std.proofs.Common.{List}
use Rattle.std.specs.Prelude.{flat_map}
use Rattle.std.specs.List.{range_with_len}
use Rattle.gateway_core.specs.Lived.{GatewayStep, session_steps}
use Rattle.gateway_core.specs.Holding.{sources_of}
use Rattle.gateway_core.specs.Standing.{Stands}
use Rattle.cmd_relay.specs.Texts.{IsReaderText, Wrote, places_in_read_group, kept_by_index}
use Rattle.cmd_relay.proofs.text.put_readers.Given as goal

abbrev pub invariant-loop-r : goal.invariant-loop-r
invariant-loop-r l = (lived : List GatewayStep) → Stands l.second lived l.gateway → Wrote (IsReaderText l.second (session_steps (sources_of l.gateway) lived) (kept_by_index (sources_of l.gateway) lived)) (flat_map (places_in_read_group l.second) (range_with_len 0 l.r)) l.fn.out.items l.out.items
