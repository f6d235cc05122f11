use Rattle.writer_group.proofs.Moments.{due-in-time}
use Rattle.writer_group.proofs.laws.a_late_turn_leaves_the_next_one_due.Goals as goal

pub returns : goal.returns
returns c = due-in-time
