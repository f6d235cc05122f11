use Rattle.std.proofs.Common.{refl}
use Rattle.fixed_layout.proofs.writing.put_long.Goals as goal

pub returns : goal.returns
returns c = λ d e. let laid = c.put_long_at-pen.ensures.written d e in
    record { written = laid.0; moved = laid.1; same_loan = refl; same_length = c.put_long_at-pen.ensures.same_length }
