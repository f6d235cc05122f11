use Rattle.seq_number.proofs.NumberLaws.{place_from-number}
use Rattle.seq_number.proofs.laws.numbers_give_places.Goals as goal

pub returns : goal.returns
returns c = place_from-number
