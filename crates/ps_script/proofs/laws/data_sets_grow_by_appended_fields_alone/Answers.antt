use Rattle.ps_script.proofs.Growing.{field_there, behind_append, behind_other}
use Rattle.ps_script.proofs.laws.data_sets_grow_by_appended_fields_alone.Goals as goal

pub returns-clause-there : goal.returns-clause-there
returns-clause-there c = field_there

pub returns-clause-append : goal.returns-clause-append
returns-clause-append c = behind_append

pub returns-clause-other : goal.returns-clause-other
returns-clause-other c = behind_other
