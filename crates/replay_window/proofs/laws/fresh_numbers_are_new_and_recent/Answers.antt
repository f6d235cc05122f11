use Rattle.replay_window.proofs.OnceLaws.{fresh-exactly}
use Rattle.replay_window.proofs.laws.fresh_numbers_are_new_and_recent.Goals as goal

pub returns : goal.returns
returns c = fresh-exactly
