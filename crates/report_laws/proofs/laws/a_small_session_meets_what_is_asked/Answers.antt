use Rattle.report_laws.proofs.Witness.{first_names, first_numbers}
use Rattle.report_laws.proofs.laws.a_small_session_meets_what_is_asked.Goals as goal

pub returns-clause-names : goal.returns-clause-names
returns-clause-names c = first_names

pub returns-clause-numbers : goal.returns-clause-numbers
returns-clause-numbers c = first_numbers
