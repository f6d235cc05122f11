use Rattle.pubsub_model.proofs.LoggedTurns.{logged}
use Rattle.pubsub_model.proofs.laws_of_answers.a_number_names_its_version.Goals as goal

pub returns : goal.returns
returns c = λ s deeds short. logged short s deeds
