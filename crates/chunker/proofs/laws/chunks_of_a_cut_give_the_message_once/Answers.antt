use Rattle.chunker.proofs.ListLaws.{cut-once}
use Rattle.chunker.proofs.laws.chunks_of_a_cut_give_the_message_once.Goals as goal

pub returns : goal.returns
returns c = cut-once
