use Rattle.std.proofs.Common.{arith}
use Rattle.reader_group.proofs.Chunking.{laid-meets}
use Rattle.reader_group.proofs.pieces.lay.Goals as goal

pub returns : goal.returns
returns c = λ kept is.
    laid-meets kept c.args.number c.args.offset c.args.total c.args.part.now c.chunk.new.self c.chunk.result (omega arith) (c.chunk.ensures.case kept is)
