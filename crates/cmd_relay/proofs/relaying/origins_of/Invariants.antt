use Rattle.std.proofs.Common.{◌≡◌, length, take}
use Rattle.std.specs.Prelude.{flat_map}
use Rattle.cmd_relay.proofs.relaying.origins_of.Given as goal

abbrev pub invariant-loop-group : goal.invariant-loop-group
invariant-loop-group l = length l.origins.items ≡ length (flat_map (λ group. group.reader) (take l.group-index l.group-items))
