use Rattle.reader_group.proofs.Asked.{asked-passes, other-class-refused, other-group-refused, other-publisher-refused, other-version-refused}
use Rattle.reader_group.proofs.laws.what_is_not_asked_for_is_not_ours.Goals as goal

pub returns-clause-publisher : goal.returns-clause-publisher
returns-clause-publisher c = other-publisher-refused

pub returns-clause-group : goal.returns-clause-group
returns-clause-group c = other-group-refused

pub returns-clause-version : goal.returns-clause-version
returns-clause-version c = other-version-refused

pub returns-clause-class_id : goal.returns-clause-class_id
returns-clause-class_id c = other-class-refused

pub returns-clause-asked : goal.returns-clause-asked
returns-clause-asked c = asked-passes
