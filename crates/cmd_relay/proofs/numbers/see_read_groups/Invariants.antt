use Rattle.std.proofs.Common.{ℕ, ◌<◌, List, length}
use Rattle.reader_group.specs.Settings.{group_at as read_group_at}
use Rattle.gateway_core.specs.Lived.{GatewayStep, session_steps}
use Rattle.gateway_core.specs.Holding.{sources_of}
use Rattle.gateway_core.specs.Standing.{Stands}
use Rattle.cmd_relay.specs.Seen.{ReaderIsSeen}
use Rattle.cmd_relay.proofs.numbers.see_read_groups.Given as goal

abbrev pub invariant-loop-r : goal.invariant-loop-r
invariant-loop-r l = (lived : List GatewayStep) → Stands l.second lived l.gateway → (r i : ℕ) → r < l.r → i < length (read_group_at l.second r).reader
    → ReaderIsSeen l.second (session_steps (sources_of l.gateway) lived) r i
