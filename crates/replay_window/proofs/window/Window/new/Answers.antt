use Rattle.replay_window.proofs.TakenLemmas.{IsFresh-none_taken}
use Rattle.replay_window.proofs.window.Window.new.Goals as goal

pub returns-clause-all_fresh : goal.returns-clause-all_fresh
returns-clause-all_fresh c = λ n. IsFresh-none_taken n
