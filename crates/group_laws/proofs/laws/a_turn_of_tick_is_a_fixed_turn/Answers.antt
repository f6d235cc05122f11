use Rattle.group_laws.proofs.Ticking.{fixed-turn, is-sampled}
use Rattle.group_laws.proofs.laws.a_turn_of_tick_is_a_fixed_turn.Goals as goal

pub returns-clause-fixed : goal.returns-clause-fixed
returns-clause-fixed c = fixed-turn

pub returns-clause-sampled : goal.returns-clause-sampled
returns-clause-sampled c = is-sampled
