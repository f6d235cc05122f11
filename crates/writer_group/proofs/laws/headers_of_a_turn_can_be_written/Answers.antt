use Rattle.writer_group.proofs.WrittenHeaders.{turn-written}
use Rattle.writer_group.proofs.laws.headers_of_a_turn_can_be_written.Goals as goal

pub returns : goal.returns
returns c = turn-written
