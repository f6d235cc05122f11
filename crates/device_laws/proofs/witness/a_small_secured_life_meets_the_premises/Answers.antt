use Rattle.device_laws.proofs.LargerLives.{secured-meets}
use Rattle.device_laws.proofs.witness.a_small_secured_life_meets_the_premises.Goals as goal

pub returns : goal.returns
returns c = secured-meets
