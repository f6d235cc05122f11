use Rattle.std.proofs.Common.{ℕ, ◌<◌, List}
use Rattle.writer_group.specs.Parts.{group_at}
use Rattle.writer_group.specs.Payloads.{writer_at}
use Rattle.gateway_core.specs.Lived.{GatewayStep, session_steps}
use Rattle.gateway_core.specs.Holding.{sources_of}
use Rattle.gateway_core.specs.Standing.{Stands}
use Rattle.cmd_relay.specs.Texts.{kept_by_index}
use Rattle.cmd_relay.specs.Seen.{LogIsSeen}
use Rattle.cmd_relay.proofs.numbers.see_group.Given as goal

abbrev pub invariant-loop-w : goal.invariant-loop-w
invariant-loop-w l = (lived : List GatewayStep) → Stands l.second lived l.gateway → (w : ℕ) → w < l.w
    → LogIsSeen l.second (session_steps (sources_of l.gateway) lived) (kept_by_index (sources_of l.gateway) lived (writer_at (group_at l.second l.g) w).dataset) l.g w
