use Rattle.std.proofs.Common.{◌≡◌, take}
use Rattle.gateway_core.proofs.ReadNames.{names_in}
use Rattle.gateway_core.proofs.sources.reader_names.Given as goal

abbrev pub invariant-loop-group : goal.invariant-loop-group
invariant-loop-group l = l.names.items ≡ names_in (take l.group-index l.group-items)
