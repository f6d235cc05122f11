use Rattle.seq_number.proofs.NumberLaws.{newer-steps}
use Rattle.seq_number.proofs.laws.steps_are_newer.Goals as goal

pub returns : goal.returns
returns c = newer-steps
