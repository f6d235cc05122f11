use Rattle.device.proofs.RestoredLives.{restored-others}
use Rattle.device.proofs.laws.a_restored_life_gives_no_number_again.Goals as goal

pub returns : goal.returns
returns c = restored-others
