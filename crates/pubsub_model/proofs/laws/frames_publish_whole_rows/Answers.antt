use Rattle.pubsub_model.proofs.CadenceLaws.{cadence-publishes}
use Rattle.pubsub_model.proofs.laws.frames_publish_whole_rows.Goals as goal

pub returns : goal.returns
returns c = cadence-publishes
