use Rattle.message_guard.proofs.Restoring.{length-with_stream, stream_twice}
use Rattle.message_guard.proofs.laws.a_stream_added_twice_is_gone.Goals as goal

pub returns : goal.returns
returns c = record { again = stream_twice; len = length-with_stream }
