use Rattle.std.proofs.Common.{List, take}
use Rattle.std.specs.List.{All}
use Rattle.ps_config.specs.declared.parts.Config.{Config}
use Rattle.gateway_core.specs.Lived.{GatewayStep}
use Rattle.gateway_core.specs.Holding.{sources_of}
use Rattle.gateway_core.specs.Standing.{Stands}
use Rattle.cmd_relay.specs.Texts.{kept_by_index}
use Rattle.cmd_relay.specs.Seen.{HasVersion}
use Rattle.cmd_relay.proofs.numbers.see_versions.Given as goal

abbrev pub invariant-loop-entry : goal.invariant-loop-entry
invariant-loop-entry l = (second : Config) (lived : List GatewayStep) → Stands second lived l.gateway → All (HasVersion (kept_by_index (sources_of l.gateway) lived l.set)) (take l.entry-index l.log)
