use Rattle.chunker.proofs.CutLaws.{cut-of}
use Rattle.chunker.proofs.laws.each_chunk_of_a_cut_is_of_its_message.Goals as goal

pub returns : goal.returns
returns c = cut-of
