use Rattle.group_laws.proofs.BuiltIn.{built-in-matched, built-in-turn}
use Rattle.group_laws.proofs.witness.the_built_in_groups_are_matched.Goals as goal

pub returns-clause-matched : goal.returns-clause-matched
returns-clause-matched c = built-in-matched

pub returns-clause-turn : goal.returns-clause-turn
returns-clause-turn c = built-in-turn
