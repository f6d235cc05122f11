use Rattle.chunker.proofs.CutLaws.{cut-room}
use Rattle.chunker.proofs.laws.each_chunk_of_a_cut_has_room_for_its_bytes.Goals as goal

pub returns : goal.returns
returns c = cut-room
