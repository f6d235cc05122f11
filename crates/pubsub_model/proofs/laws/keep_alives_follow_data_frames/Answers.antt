use Rattle.pubsub_model.proofs.CadenceLaws.{alive-above, all_alive-above}
use Rattle.pubsub_model.proofs.laws.keep_alives_follow_data_frames.Goals as goal

pub returns : goal.returns
returns c = record { latest = alive-above; each = all_alive-above }
