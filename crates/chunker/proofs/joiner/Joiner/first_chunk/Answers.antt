use Rattle.chunker.specs.Joining.{empty}
use Rattle.chunker.proofs.JoinerLaws.{HasLaid-none}
use Rattle.chunker.proofs.joiner.Joiner.first_chunk.Goals as goal

pub returns-clause-case : goal.returns-clause-case
returns-clause-case c = c.lay.ensures.case empty (HasLaid-none c.args.number c.args.total c.args.self.now.bytes)
