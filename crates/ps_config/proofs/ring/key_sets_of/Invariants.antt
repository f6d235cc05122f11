use Rattle.std.proofs.Common.{◌≡◌, map, take}
use Rattle.ps_config.specs.Rings.{key_set}
use Rattle.ps_config.proofs.ring.key_sets_of.Given as goal

-- the sets so far are those of the keys so far
abbrev pub invariant-loop-key : goal.invariant-loop-key
invariant-loop-key l = l.sets.items ≡ map key_set (take l.key-index l.keys)
