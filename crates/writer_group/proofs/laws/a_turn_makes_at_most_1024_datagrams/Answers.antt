use Rattle.writer_group.proofs.FewDatagrams.{turn-few}
use Rattle.writer_group.proofs.laws.a_turn_makes_at_most_1024_datagrams.Goals as goal

pub returns : goal.returns
returns c = turn-few
