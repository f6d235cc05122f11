use Rattle.turn_laws.proofs.Naming.{first-names, near-names, near-numbers}
use Rattle.turn_laws.proofs.Sharing.{any-rise, life-rise, steps-rise}
use Rattle.turn_laws.proofs.laws.numbers_rise_with_places_over_all_turns.Goals as goal

pub returns : goal.returns
returns c = record { session = steps-rise; life = life-rise; any = any-rise; names = near-names; numbers = near-numbers; first = first-names }
