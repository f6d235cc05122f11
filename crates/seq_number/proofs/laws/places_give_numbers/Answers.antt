use Rattle.seq_number.proofs.NumberLaws.{number-place_from}
use Rattle.seq_number.proofs.laws.places_give_numbers.Goals as goal

pub returns : goal.returns
returns c = number-place_from
