use Rattle.frame_codec.proofs.FaultLaws.{count-refused, value-refused, surplus-refused, change-refused, trailing-refused}
use Rattle.frame_codec.proofs.laws.fields_are_judged_in_their_order.Goals as goal

pub returns-clause-count : goal.returns-clause-count
returns-clause-count c = count-refused

pub returns-clause-value : goal.returns-clause-value
returns-clause-value c = value-refused

pub returns-clause-surplus : goal.returns-clause-surplus
returns-clause-surplus c = surplus-refused

pub returns-clause-change : goal.returns-clause-change
returns-clause-change c = change-refused

pub returns-clause-behind : goal.returns-clause-behind
returns-clause-behind c = trailing-refused
