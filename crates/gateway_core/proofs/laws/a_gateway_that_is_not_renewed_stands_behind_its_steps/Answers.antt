use Rattle.gateway_core.specs.Standing.{steps_of}
use Rattle.gateway_core.proofs.Unrenewed.{stands-back, stands-in}
use Rattle.gateway_core.proofs.laws.a_gateway_that_is_not_renewed_stands_behind_its_steps.Goals as goal

pub returns : goal.returns
returns c = λ second lived s. (stands-in second lived s, stands-back second lived (steps_of s lived) s)
