use Rattle.reader_group.proofs.Renewing.{unrenewed-is-plain}
use Rattle.reader_group.proofs.laws.a_group_that_is_not_renewed_has_its_plain_reading.Goals as goal

pub returns : goal.returns
returns c = unrenewed-is-plain
