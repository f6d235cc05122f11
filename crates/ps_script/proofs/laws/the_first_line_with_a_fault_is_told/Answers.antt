use Rattle.ps_script.proofs.FirstFault.{refused_by, told, accepted, untold}
use Rattle.ps_script.proofs.laws.the_first_line_with_a_fault_is_told.Goals as goal

pub returns-clause-refused : goal.returns-clause-refused
returns-clause-refused c = refused_by

pub returns-clause-told : goal.returns-clause-told
returns-clause-told c = told

pub returns-clause-accepted : goal.returns-clause-accepted
returns-clause-accepted c = accepted

pub returns-clause-untold : goal.returns-clause-untold
returns-clause-untold c = untold
