use Rattle.std.proofs.Common.{ap, ℕ, List}
use Rattle.version_cell.specs.Histories.{opening_words}
use Rattle.gateway_core.proofs.collected.opening.Goals as goal

pub returns-clause-opening : goal.returns-clause-opening
unfolding opening_words
returns-clause-opening c = ap (λ (words : List ℕ). record { row = record { words = words }; version = 0 }) c.opening.ensures.zeros
