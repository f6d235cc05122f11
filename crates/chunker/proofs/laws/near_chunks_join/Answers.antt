use Rattle.chunker.proofs.ListLaws.{near-list}
use Rattle.chunker.proofs.laws.near_chunks_join.Goals as goal

pub returns : goal.returns
returns c = near-list
