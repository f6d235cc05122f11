use Rattle.reader_group.proofs.Renewing.{taken-once}
use Rattle.reader_group.proofs.laws.a_renewed_group_takes_no_pair_twice.Goals as goal

pub returns : goal.returns
returns c = taken-once
