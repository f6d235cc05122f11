use Rattle.session_parts.proofs.MadeTo.{MadeTo}
use Rattle.lane_groups.specs.Making.{IsNewPlaceIf, is_member}
use Rattle.lane_groups.proofs.making.places_of.Given as goal

abbrev pub invariant-loop-g : goal.invariant-loop-g
invariant-loop-g l = MadeTo (λ g place. IsNewPlaceIf l.config g l.turns (is_member l.config l.members g) place) l.g l.places.items
