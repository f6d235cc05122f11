use Rattle.version_cell.proofs.Keeps.{reads}
use Rattle.version_cell.proofs.places.load_words.Goals as goal

pub load_as-requires : goal.load_as-requires
load_as-requires g c = record { own = c.requires; rule = reads _ _ }
