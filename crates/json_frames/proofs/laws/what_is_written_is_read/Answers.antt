use Rattle.json_frames.proofs.MessagesRead.{message_is_document, message_is_read}
use Rattle.json_frames.proofs.laws.what_is_written_is_read.Goals as goal

pub returns-clause-read : goal.returns-clause-read
returns-clause-read c = message_is_read

pub returns-clause-accepted : goal.returns-clause-accepted
returns-clause-accepted c = message_is_document
