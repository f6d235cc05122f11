use Rattle.writer_group.proofs.SomeDatagrams.{turn-count, turn-some}
use Rattle.writer_group.proofs.laws.a_turn_with_a_frame_makes_a_datagram.Goals as goal

pub returns : goal.returns
returns c = record { count = turn-count; some = turn-some }
