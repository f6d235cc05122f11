use Rattle.pubsub_states.proofs.Few.{few_components}
use Rattle.pubsub_states.proofs.laws.a_configuration_has_few_components.Goals as goal

pub returns : goal.returns
returns c = few_components
