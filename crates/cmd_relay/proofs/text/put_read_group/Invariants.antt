use Rattle.std.proofs.Common.{ℕ, List, ◌++◌, map}
use Rattle.std.specs.List.{range_with_len}
use Rattle.session_model.specs.Closing.{MemberPlace}
use Rattle.gateway_core.specs.Lived.{GatewayStep, session_steps}
use Rattle.gateway_core.specs.Holding.{sources_of}
use Rattle.gateway_core.specs.Standing.{Stands}
use Rattle.cmd_relay.specs.Texts.{IsReaderText, Wrote, kept_by_index}
use Rattle.cmd_relay.proofs.text.put_read_group.Given as goal

abbrev pub invariant-loop-i : goal.invariant-loop-i
invariant-loop-i l = (lived : List GatewayStep) (places : List MemberPlace) (front : List ℕ) → Stands l.second lived l.gateway → Wrote (IsReaderText l.second (session_steps (sources_of l.gateway) lived) (kept_by_index (sources_of l.gateway) lived)) places front l.initial.out.items
    → Wrote (IsReaderText l.second (session_steps (sources_of l.gateway) lived) (kept_by_index (sources_of l.gateway) lived)) (places ++ map (λ x. (l.r, x)) (range_with_len 0 l.i)) front l.out.items
