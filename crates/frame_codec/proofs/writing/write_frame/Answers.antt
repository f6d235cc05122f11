use Rattle.std.proofs.Common.{refl, arith}
use Rattle.frame_codec.proofs.writing.write_frame.Goals as goal

pub put_frame_at-pen-requires-clause-room : goal.put_frame_at-pen-requires-clause-room
put_frame_at-pen-requires-clause-room c = c.if-not-has_room.ensures.room.0 refl

pub returns-clause-written : goal.returns-clause-written
returns-clause-written c = record { written = c.put_frame_at-pen.ensures.written; moved = c.put_frame_at-pen.ensures.end; same_loan = refl; same_length = c.put_frame_at-pen.ensures.same_length }

pub returns-clause-short : goal.returns-clause-short
returns-clause-short c = omega (arith, c.if-not-has_room.ensures.short, c.put_frame_at-pen.ensures.end)
