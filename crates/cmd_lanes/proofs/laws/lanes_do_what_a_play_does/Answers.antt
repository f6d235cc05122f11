use Rattle.cmd_lanes.proofs.Beside.{same-play}
use Rattle.cmd_lanes.proofs.laws.lanes_do_what_a_play_does.Goals as goal

pub returns : goal.returns
returns c = λ config script earlier steps looks. same-play config script earlier steps looks
