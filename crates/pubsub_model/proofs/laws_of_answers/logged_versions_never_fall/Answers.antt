use Rattle.pubsub_model.proofs.LogVersions.{log-rises}
use Rattle.pubsub_model.proofs.laws_of_answers.logged_versions_never_fall.Goals as goal

pub returns : goal.returns
returns c = log-rises
