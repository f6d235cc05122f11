use Rattle.group_laws.proofs.Ticking.{group-turn}
use Rattle.group_laws.proofs.laws.a_turn_of_tick_is_a_group_turn.Goals as goal

pub returns : goal.returns
returns c = group-turn
