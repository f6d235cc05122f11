use Rattle.std.proofs.Common.{refl}
use Rattle.frame_codec.proofs.writing.put_lent.Goals as goal

pub returns : goal.returns
returns c = λ d. record { written = c.put_at-pen.ensures.written d; moved = c.put_at-pen.ensures.end d; same_loan = refl; same_length = c.put_at-pen.ensures.same_length }
