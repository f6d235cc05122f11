use Rattle.ps_report.proofs.FirstRun.{foreign_run_told, number_is_told, version_is_told, no_number_is_told, no_version_is_told}
use Rattle.ps_report.proofs.laws.ends_go_by_the_configuration.Goals as goal

pub returns-clause-foreign : goal.returns-clause-foreign
returns-clause-foreign c = foreign_run_told

pub returns-clause-no_number : goal.returns-clause-no_number
returns-clause-no_number c = number_is_told

pub returns-clause-no_version : goal.returns-clause-no_version
returns-clause-no_version c = version_is_told

pub returns-clause-numbered : goal.returns-clause-numbered
returns-clause-numbered c = no_number_is_told

pub returns-clause-versioned : goal.returns-clause-versioned
returns-clause-versioned c = no_version_is_told
