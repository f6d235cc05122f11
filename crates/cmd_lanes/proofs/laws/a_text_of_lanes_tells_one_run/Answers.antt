use Rattle.cmd_lanes.proofs.Telling.{lanes-tell}
use Rattle.cmd_lanes.proofs.laws.a_text_of_lanes_tells_one_run.Goals as goal

pub returns : goal.returns
returns c = lanes-tell
