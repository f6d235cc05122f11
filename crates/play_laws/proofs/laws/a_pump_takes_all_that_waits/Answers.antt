use Rattle.play_laws.proofs.Calls.{takes-all}
use Rattle.play_laws.proofs.laws.a_pump_takes_all_that_waits.Goals as goal

pub returns : goal.returns
returns c = takes-all
