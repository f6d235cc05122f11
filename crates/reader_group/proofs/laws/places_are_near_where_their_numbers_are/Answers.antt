use Rattle.reader_group.proofs.Pairs.{near-pairs}
use Rattle.reader_group.proofs.laws.places_are_near_where_their_numbers_are.Goals as goal

pub returns : goal.returns
returns c = near-pairs
