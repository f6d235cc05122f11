use Rattle.std.proofs.Common.{◌+◌, [], take}
use Rattle.std.specs.Prelude.{fold}
use Rattle.payload_layout.specs.Packing.{packed_on}
use Rattle.payload_layout.proofs.Filled.{Filled, itself}
use Rattle.payload_layout.proofs.packing.plan.Given as goal

-- what the first frames are packed into
abbrev pub invariant-loop-size : goal.invariant-loop-size
invariant-loop-size l = Filled l.room (l.size-index + 1) (fold (packed_on itself l.room) [] (take (l.size-index + 1) l.sizes)) l.packs.items l.last
