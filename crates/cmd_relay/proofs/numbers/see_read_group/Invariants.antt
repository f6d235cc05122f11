use Rattle.std.proofs.Common.{ℕ, ◌<◌, List}
use Rattle.gateway_core.specs.Lived.{GatewayStep, session_steps}
use Rattle.gateway_core.specs.Holding.{sources_of}
use Rattle.gateway_core.specs.Standing.{Stands}
use Rattle.cmd_relay.specs.Seen.{ReaderIsSeen}
use Rattle.cmd_relay.proofs.numbers.see_read_group.Given as goal

abbrev pub invariant-loop-i : goal.invariant-loop-i
invariant-loop-i l = (lived : List GatewayStep) → Stands l.second lived l.gateway → (i : ℕ) → i < l.i → ReaderIsSeen l.second (session_steps (sources_of l.gateway) lived) l.r i
