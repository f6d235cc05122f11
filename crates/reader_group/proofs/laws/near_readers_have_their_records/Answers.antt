use Rattle.reader_group.proofs.Agreed.{agrees}
use Rattle.reader_group.proofs.laws.near_readers_have_their_records.Goals as goal

pub returns : goal.returns
returns c = agrees (record { frame = c.each_step_keeps_records.ensures.frame })
