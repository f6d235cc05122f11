use Rattle.std.proofs.Common.{take}
use Rattle.std.specs.Int.{w16, to_le_bytes}
use Rattle.std.specs.List.{flat_map}
use Rattle.ua_binary.specs.Writing.{Puts}
use Rattle.payload_layout.proofs.parts.put_sizes.Given as goal

abbrev pub invariant-loop-size : goal.invariant-loop-size
invariant-loop-size l = Puts l.fn.pen l.pen (flat_map (to_le_bytes w16) (take l.size-index l.sizes))
