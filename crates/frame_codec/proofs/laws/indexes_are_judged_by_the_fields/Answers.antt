use Rattle.frame_codec.proofs.RefusalLaws.{index-short, index-out, index-field, index-surplus}
use Rattle.frame_codec.proofs.laws.indexes_are_judged_by_the_fields.Goals as goal

pub returns-clause-short : goal.returns-clause-short
returns-clause-short c = index-short

pub returns-clause-out : goal.returns-clause-out
returns-clause-out c = index-out

pub returns-clause-field : goal.returns-clause-field
returns-clause-field c = index-field

pub returns-clause-surplus : goal.returns-clause-surplus
returns-clause-surplus c = index-surplus
