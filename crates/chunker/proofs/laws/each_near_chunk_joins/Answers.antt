use Rattle.chunker.proofs.ChunkLaws.{joins-chunk}
use Rattle.chunker.proofs.laws.each_near_chunk_joins.Goals as goal

pub returns : goal.returns
returns c = joins-chunk
