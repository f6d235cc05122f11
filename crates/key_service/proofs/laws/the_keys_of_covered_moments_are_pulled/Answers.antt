use Rattle.key_service.proofs.Served.{covered_moments}
use Rattle.key_service.proofs.laws.the_keys_of_covered_moments_are_pulled.Goals as goal

pub returns : goal.returns
returns c = covered_moments
