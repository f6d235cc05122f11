use Rattle.pubsub_model.proofs.PlaceLaws.{log-in_row, alive-place}
use Rattle.pubsub_model.proofs.laws.data_frames_are_numbered_in_a_row.Goals as goal

pub returns : goal.returns
returns c = record { log = log-in_row; alive = alive-place }
