use Rattle.seq_number.proofs.NumberLaws.{newer-near}
use Rattle.seq_number.proofs.laws.near_places_are_newer.Goals as goal

pub returns : goal.returns
returns c = newer-near
