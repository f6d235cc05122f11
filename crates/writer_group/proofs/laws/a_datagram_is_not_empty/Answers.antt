use Rattle.writer_group.proofs.SomeBytes.{turn-bytes}
use Rattle.writer_group.proofs.laws.a_datagram_is_not_empty.Goals as goal

pub returns : goal.returns
returns c = turn-bytes
