use Rattle.group_laws.proofs.OtherReaders.{others-none}
use Rattle.group_laws.proofs.laws.a_dynamic_turn_has_nothing_for_readers_of_other_writers.Goals as goal

pub returns : goal.returns
returns c = others-none
