use Rattle.chunker.proofs.SpellingLaws.{chunk-long}
use Rattle.chunker.proofs.laws.a_written_chunk_is_its_front_and_its_data.Goals as goal

pub returns : goal.returns
returns c = chunk-long
