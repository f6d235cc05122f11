use Rattle.group_laws.proofs.DynamicReading.{dynamic-read}
use Rattle.group_laws.proofs.laws.a_dynamic_turn_is_read_as_it_was_answered.Goals as goal

pub returns : goal.returns
returns c = dynamic-read
