use Rattle.writer_group.proofs.SharedNumbers.{shared-numbers}
use Rattle.writer_group.proofs.laws.no_token_and_number_come_twice_in_groups.Goals as goal

pub returns : goal.returns
returns c = shared-numbers
