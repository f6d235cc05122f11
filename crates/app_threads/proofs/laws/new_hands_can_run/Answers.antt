use Rattle.app_threads.proofs.Starting.{ready, unseen}
use Rattle.app_threads.proofs.laws.new_hands_can_run.Goals as goal

pub returns : goal.returns
returns c = record { ready = ready; unseen = unseen }
