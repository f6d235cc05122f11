use Rattle.std.proofs.Common.{◌≡◌, take}
use Rattle.ps_config.proofs.parts.array_of.Given as goal

-- the bytes so far
abbrev pub invariant-loop-byte : goal.invariant-loop-byte
invariant-loop-byte l = l.room.items ≡ take l.byte-index l.bytes
