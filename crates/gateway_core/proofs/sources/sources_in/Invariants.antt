use Rattle.std.proofs.Common.{◌≡◌}
use Rattle.session_parts.proofs.MadeTo.{MadeTo}
use Rattle.gateway_core.proofs.FindNames.{IsFound}
use Rattle.gateway_core.proofs.sources.sources_in.Given as goal

abbrev pub invariant-loop-meta : goal.invariant-loop-meta
invariant-loop-meta l = record {
  items : l.meta-items ≡ l.second.dataset;
  made : MadeTo (IsFound l.first l.second) l.meta-index l.sources.items;
}
