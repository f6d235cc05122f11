use Rattle.target_cells.proofs.Keepers.{still_keeper}
use Rattle.target_cells.proofs.storing.store.Goals as goal

pub returns-clause-keeper : goal.returns-clause-keeper
returns-clause-keeper g c = still_keeper _ _ _ c.requires.keeper c.store.ensures.stored c.store.ensures.lawful
