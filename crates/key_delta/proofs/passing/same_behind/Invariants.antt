use Rattle.std.proofs.Common.{◌≡◌, take}
use Rattle.key_delta.proofs.passing.same_behind.Given as goal

abbrev pub invariant-loop-at : goal.invariant-loop-at
invariant-loop-at l = take l.at l.one ≡ take l.at l.other
