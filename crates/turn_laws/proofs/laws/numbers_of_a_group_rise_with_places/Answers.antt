use Rattle.turn_laws.proofs.Alone.{alone-rise}
use Rattle.turn_laws.proofs.laws.numbers_of_a_group_rise_with_places.Goals as goal

pub returns : goal.returns
returns c = alone-rise
