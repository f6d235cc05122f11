use Rattle.group_laws.proofs.FixedPieces.{fixed-turn}
use Rattle.group_laws.proofs.laws.a_fixed_turn_has_its_writers_slot.Goals as goal

pub returns : goal.returns
returns c = fixed-turn
