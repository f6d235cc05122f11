use Rattle.group_laws.proofs.FixedReading.{fixed-read}
use Rattle.group_laws.proofs.laws.a_fixed_turn_is_read_as_it_was_answered.Goals as goal

pub returns : goal.returns
returns c = fixed-read
