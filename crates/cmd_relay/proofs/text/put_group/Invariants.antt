use Rattle.std.proofs.Common.{ℕ, List, ◌++◌, map}
use Rattle.std.specs.List.{range_with_len}
use Rattle.session_model.specs.Closing.{MemberPlace}
use Rattle.gateway_core.specs.Lived.{GatewayStep, session_steps}
use Rattle.gateway_core.specs.Holding.{sources_of}
use Rattle.gateway_core.specs.Standing.{Stands}
use Rattle.cmd_relay.specs.Texts.{IsWriterText, Wrote}
use Rattle.cmd_relay.proofs.text.put_group.Given as goal

abbrev pub invariant-loop-w : goal.invariant-loop-w
invariant-loop-w l = (lived : List GatewayStep) (places : List MemberPlace) (front : List ℕ) → Stands l.second lived l.gateway → Wrote (IsWriterText l.second (session_steps (sources_of l.gateway) lived)) places front l.initial.out.items
    → Wrote (IsWriterText l.second (session_steps (sources_of l.gateway) lived)) (places ++ map (λ x. (l.g, x)) (range_with_len 0 l.w)) front l.out.items
