use Rattle.message_guard.proofs.Carrying.{written_carries, sent_carries, front_is_senders}
use Rattle.message_guard.proofs.laws.a_written_header_carries_the_front.Goals as goal

pub returns : goal.returns
returns c = record { written = written_carries; sent = sent_carries; front = front_is_senders }
