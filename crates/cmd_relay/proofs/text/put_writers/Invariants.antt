use Rattle.std.proofs.Common.{List}
use Rattle.std.specs.Prelude.{flat_map}
use Rattle.std.specs.List.{range_with_len}
use Rattle.gateway_core.specs.Lived.{GatewayStep, session_steps}
use Rattle.gateway_core.specs.Holding.{sources_of}
use Rattle.gateway_core.specs.Standing.{Stands}
use Rattle.cmd_relay.specs.Texts.{IsWriterText, Wrote, places_in_group}
use Rattle.cmd_relay.proofs.text.put_writers.Given as goal

abbrev pub invariant-loop-g : goal.invariant-loop-g
invariant-loop-g l = (lived : List GatewayStep) → Stands l.second lived l.gateway → Wrote (IsWriterText l.second (session_steps (sources_of l.gateway) lived)) (flat_map (places_in_group l.second) (range_with_len 0 l.g)) l.fn.out.items l.out.items
