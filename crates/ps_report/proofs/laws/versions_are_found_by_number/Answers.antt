use Rattle.std.proofs.Common.{refl}
use Rattle.ps_report.proofs.laws.versions_are_found_by_number.Goals as goal

pub returns-clause-wrapped : goal.returns-clause-wrapped
returns-clause-wrapped c = refl

pub returns-clause-latest : goal.returns-clause-latest
returns-clause-latest c = refl

pub returns-clause-absent : goal.returns-clause-absent
returns-clause-absent c = refl
