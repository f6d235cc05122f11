use Rattle.chunker.proofs.ListLaws.{refused-left}
use Rattle.chunker.proofs.laws.refused_chunks_change_nothing.Goals as goal

pub returns : goal.returns
returns c = refused-left
