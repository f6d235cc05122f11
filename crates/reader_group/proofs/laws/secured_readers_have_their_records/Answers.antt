use Rattle.reader_group.proofs.Guarded.{secured-agrees}
use Rattle.reader_group.proofs.laws.secured_readers_have_their_records.Goals as goal

pub returns : goal.returns
returns c = secured-agrees (record { frame = c.each_step_keeps_records.ensures.frame })
