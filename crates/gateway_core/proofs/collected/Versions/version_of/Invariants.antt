use Rattle.std.proofs.Common.{◌≡◌, take}
use Rattle.std.specs.Prelude.{reverse}
use Rattle.gateway_core.specs.Lived.{version_in}
use Rattle.gateway_core.proofs.collected.Versions.version_of.Given as goal

abbrev pub invariant-loop-kept : goal.invariant-loop-kept
invariant-loop-kept l = l.version ≡ version_in (reverse (take l.kept-index l.self.kept.items)) l.store
