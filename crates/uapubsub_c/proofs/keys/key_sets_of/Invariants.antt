use Rattle.std.proofs.Common.{◌≡◌, map, take}
use Rattle.uapubsub_c.specs.Keys.{key_set_in}
use Rattle.uapubsub_c.proofs.keys.key_sets_of.Given as goal

-- the sets so far are those of the words so far
abbrev pub invariant-loop-set : goal.invariant-loop-set
invariant-loop-set l = l.sets.items ≡ map (key_set_in l.long) (take l.set-index l.words)
