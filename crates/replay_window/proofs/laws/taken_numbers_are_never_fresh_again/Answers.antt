use Rattle.replay_window.proofs.OnceLaws.{taken-not-fresh}
use Rattle.replay_window.proofs.laws.taken_numbers_are_never_fresh_again.Goals as goal

pub returns : goal.returns
returns c = taken-not-fresh
