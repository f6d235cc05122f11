use Rattle.std.proofs.Common.{◌≡◌, take}
use Rattle.fixed_layout.specs.Datagrams.{last_end}
use Rattle.fixed_layout.proofs.slots.last_end.Given as goal

abbrev pub invariant-loop-slot : goal.invariant-loop-slot
invariant-loop-slot l = l.end ≡ last_end (take l.slot-index l.slots)
