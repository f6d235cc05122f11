use Rattle.lane_groups.proofs.Ticking.{same-deeds}
use Rattle.lane_groups.proofs.laws.turns_are_ticks_of_a_session.Goals as goal

pub returns : goal.returns
returns c = λ config steps turns. same-deeds config steps turns
