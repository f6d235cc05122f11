use Rattle.pubsub_states.proofs.StateLaws.{operational_where_all}
use Rattle.pubsub_states.proofs.laws.a_component_is_operational_where_all_above_are.Goals as goal

pub returns : goal.returns
returns c = operational_where_all
