use Rattle.ps_script.proofs.Growing.{first_behind, last_behind, each_behind}
use Rattle.ps_script.proofs.laws.data_sets_begin_as_configured.Goals as goal

pub returns-clause-first : goal.returns-clause-first
returns-clause-first c = first_behind

pub returns-clause-last : goal.returns-clause-last
returns-clause-last c = last_behind

pub returns-clause-each : goal.returns-clause-each
returns-clause-each c = each_behind
