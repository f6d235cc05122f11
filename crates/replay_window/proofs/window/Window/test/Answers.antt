use Rattle.std.proofs.Common.{sym, arith}
use Rattle.replay_window.proofs.TakenLemmas.{fresh_above}
use Rattle.replay_window.proofs.window.Window.test.Goals as goal

pub returns-then-self-n : goal.returns-then-self-n
returns-then-self-n c = λ taken is. sym (fresh_above taken c.args.n (omega (arith, is.high_is)))
