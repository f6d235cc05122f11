use Rattle.std.proofs.Common.{◌≡◌, [], ◌∷◌, length}
use Rattle.std.specs.Prelude.{All}
use Rattle.gateway_core.specs.Lived.{first_version}
use Rattle.gateway_core.specs.Holding.{HasRoom}
use Rattle.gateway_core.specs.Standing.{versions_in}
use Rattle.gateway_core.proofs.collected.all_versions.Given as goal

abbrev pub invariant-loop-made : goal.invariant-loop-made
invariant-loop-made l = record {
  count : length l.versions.items ≡ l.made;
  each : All (λ one. versions_in one ≡ first_version ∷ []) l.versions.items;
  room : All (HasRoom l.most) l.versions.items;
}
