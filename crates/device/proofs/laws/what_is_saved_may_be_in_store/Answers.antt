use Rattle.device.proofs.RestoredLives.{saves-no-lower, store-kept}
use Rattle.device.proofs.laws.what_is_saved_may_be_in_store.Goals as goal

pub returns-clause-kept : goal.returns-clause-kept
returns-clause-kept c = store-kept

pub returns-clause-saved : goal.returns-clause-saved
returns-clause-saved c = saves-no-lower
