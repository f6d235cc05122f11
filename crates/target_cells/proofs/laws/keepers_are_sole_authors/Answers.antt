use Rattle.target_cells.proofs.Keepers.{kept_sole}
use Rattle.target_cells.proofs.laws.keepers_are_sole_authors.Goals as goal

pub returns : goal.returns
returns c = kept_sole
