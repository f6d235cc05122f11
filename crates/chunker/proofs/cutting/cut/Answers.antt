use Rattle.chunker.proofs.CutLaws.{cut-is}
use Rattle.chunker.proofs.cutting.cut.Goals as goal

pub returns-clause-chunk : goal.returns-clause-chunk
returns-clause-chunk c = λ place message long. cut-is c.args.room place c.args.total c.args.k c.min.result message c.requires.has_room c.requires.within c.min.ensures long
