use Rattle.ps_script.proofs.Moments.{moment_later, moment_tick, moment_most}
use Rattle.ps_script.proofs.laws.time_rises_by_ticks.Goals as goal

pub returns-clause-later : goal.returns-clause-later
returns-clause-later c = moment_later

pub returns-clause-tick : goal.returns-clause-tick
returns-clause-tick c = moment_tick

pub returns-clause-most : goal.returns-clause-most
returns-clause-most c = moment_most
