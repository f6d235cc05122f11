use Rattle.std.proofs.Common.{◌≡◌, ℕ, ◌<◌, get_or}
use Rattle.group_keys.specs.KeySets.{encrypting_lengths, encrypting_length}
use Rattle.group_keys.proofs.ring.first_misfit.Given as goal

abbrev pub invariant-loop-i : goal.invariant-loop-i
invariant-loop-i l = (k : ℕ) → k < l.i → get_or (encrypting_lengths l.sets) k 0 ≡ encrypting_length l.long
