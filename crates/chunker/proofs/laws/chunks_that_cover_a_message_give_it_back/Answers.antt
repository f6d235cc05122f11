use Rattle.chunker.proofs.CutLaws.{message-back}
use Rattle.chunker.proofs.laws.chunks_that_cover_a_message_give_it_back.Goals as goal

pub returns : goal.returns
returns c = message-back
