use Rattle.pubsub_model.proofs.CadenceLaws.{answer-same, quiet_answer-no_change, answer-changed}
use Rattle.pubsub_model.proofs.laws.turns_change_only_what_differs.Goals as goal

pub returns : goal.returns
returns c = record { same = answer-same; quiet = quiet_answer-no_change; changed = answer-changed }
