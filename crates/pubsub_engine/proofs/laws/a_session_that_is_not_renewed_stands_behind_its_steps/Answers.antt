use Rattle.pubsub_engine.proofs.Unrenewed.{stands-back, stands-in}
use Rattle.pubsub_engine.proofs.laws.a_session_that_is_not_renewed_stands_behind_its_steps.Goals as goal

pub returns : goal.returns
returns c = λ p steps s. (stands-in p steps s, stands-back p steps s)
