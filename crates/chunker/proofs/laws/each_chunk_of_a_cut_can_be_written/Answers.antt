use Rattle.chunker.proofs.SpellingLaws.{cut-written}
use Rattle.chunker.proofs.laws.each_chunk_of_a_cut_can_be_written.Goals as goal

pub returns : goal.returns
returns c = cut-written
