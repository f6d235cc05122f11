use Rattle.chunker.specs.Joins.{numbered}
use Rattle.chunker.proofs.SpellingLaws.{chunk-again}
use Rattle.chunker.proofs.laws.a_written_chunk_is_read_whatever_follows.Goals as goal

pub returns : goal.returns
returns c = record { itself = chunk-again; by_number = λ chunk rest. chunk-again (numbered chunk) rest }
