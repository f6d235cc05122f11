use Rattle.replay_window.proofs.OnceLaws.{taken-once}
use Rattle.replay_window.proofs.laws.fresh_numbers_are_taken_once.Goals as goal

pub returns : goal.returns
returns c = taken-once
