use Rattle.frame_codec.proofs.FieldFaultLaws.{value-named, surplus-named, change-named, named_refused, refused_named}
use Rattle.frame_codec.proofs.laws.faulty_fields_are_named.Goals as goal

pub returns-clause-value : goal.returns-clause-value
returns-clause-value c = value-named

pub returns-clause-surplus : goal.returns-clause-surplus
returns-clause-surplus c = surplus-named

pub returns-clause-change : goal.returns-clause-change
returns-clause-change c = change-named

pub returns-clause-named : goal.returns-clause-named
returns-clause-named c = named_refused

pub returns-clause-of_value : goal.returns-clause-of_value
returns-clause-of_value c = refused_named
