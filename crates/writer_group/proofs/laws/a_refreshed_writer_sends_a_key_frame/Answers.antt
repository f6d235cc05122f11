use Rattle.writer_group.proofs.FreshWriters.{fresh-refreshed, whole-answer}
use Rattle.writer_group.proofs.laws.a_refreshed_writer_sends_a_key_frame.Goals as goal

pub returns : goal.returns
returns c = record { exactly = fresh-refreshed; whole = whole-answer }
