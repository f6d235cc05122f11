use Rattle.pubsub_states.proofs.ChangeLaws.{run_stands, run_states}
use Rattle.pubsub_states.proofs.laws.states_are_those_of_the_flags.Goals as goal

pub returns : goal.returns
returns c = record { flags = run_stands; states = run_states }
