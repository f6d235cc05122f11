use Rattle.pubsub_states.proofs.Places.{component_at, placed}
use Rattle.pubsub_states.proofs.laws.ids_are_places_in_order.Goals as goal

pub returns : goal.returns
returns c = record {
  place = component_at;
  among = λ counts id component is. (placed counts id component is).0;
  id = λ counts id component is. (placed counts id component is).1;
}
