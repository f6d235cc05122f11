use Rattle.std.proofs.Common.{[], arith}
use Rattle.frame_codec.proofs.writing.put_flags2.Goals as goal

pub put_u8-requires : goal.put_u8-requires
put_u8-requires c = omega (arith, rw c.in-Change.is at (c.requires []))

pub put_u8-requires-in-Alive : goal.put_u8-requires-in-Alive
put_u8-requires-in-Alive c = omega (arith, rw c.in-Alive.is at (c.requires []))
