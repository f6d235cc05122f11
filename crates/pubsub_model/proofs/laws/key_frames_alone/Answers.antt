use Rattle.pubsub_model.proofs.CadenceLaws.{answer-key, log_of-key}
use Rattle.pubsub_model.proofs.laws.key_frames_alone.Goals as goal

pub returns : goal.returns
returns c = record { each = answer-key; log = log_of-key }
