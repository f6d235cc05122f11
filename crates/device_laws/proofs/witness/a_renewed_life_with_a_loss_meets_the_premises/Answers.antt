use Rattle.device_laws.proofs.LargerLives.{renewed-meets}
use Rattle.device_laws.proofs.witness.a_renewed_life_with_a_loss_meets_the_premises.Goals as goal

pub returns : goal.returns
returns c = renewed-meets
