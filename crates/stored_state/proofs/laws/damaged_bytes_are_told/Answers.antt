use Rattle.stored_state.proofs.Words.{same-states}
use Rattle.stored_state.proofs.laws.damaged_bytes_are_told.Goals as goal

pub returns : goal.returns
returns c = same-states
