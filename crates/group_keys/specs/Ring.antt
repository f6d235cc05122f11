-- What clauses see of a ring.
use Rattle.std.specs.Prelude.{Bool, List}
use Rattle.group_keys.specs.declared.key_set.KeySet.{KeySet}
use Rattle.group_keys.specs.declared.ring.Ring.{Ring}

-- whether its encrypting keys are those of AES-256
abbrev pub is_long : Ring → Bool
is_long ring = ring.long

-- its key sets, in the order of their tokens and moments
abbrev pub key_sets : Ring → List KeySet
key_sets ring = ring.keys.items
