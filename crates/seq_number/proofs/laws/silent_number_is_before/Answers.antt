use Rattle.seq_number.proofs.NumberLaws.{number-before}
use Rattle.seq_number.proofs.laws.silent_number_is_before.Goals as goal

pub returns : goal.returns
returns c = number-before
