use Rattle.group_laws.proofs.Allowed.{allowed-turn, gives-fronts, header-types}
use Rattle.group_laws.proofs.laws.an_allowed_turn_is_a_group_turn.Goals as goal

pub returns-clause-turn : goal.returns-clause-turn
returns-clause-turn c = allowed-turn

pub returns-clause-headers : goal.returns-clause-headers
returns-clause-headers c = λ config group types there. header-types config group types there

pub returns-clause-fronts : goal.returns-clause-fronts
returns-clause-fronts c = gives-fronts
