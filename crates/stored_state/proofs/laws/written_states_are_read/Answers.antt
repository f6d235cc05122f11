use Rattle.stored_state.proofs.Words.{state-read}
use Rattle.stored_state.proofs.laws.written_states_are_read.Goals as goal

pub returns : goal.returns
returns c = state-read
