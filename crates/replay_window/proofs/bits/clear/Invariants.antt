use Rattle.replay_window.proofs.MarksLemmas.{IsClearedTo}
use Rattle.replay_window.proofs.bits.clear.Given as goal

abbrev pub invariant-loop-block : goal.invariant-loop-block
invariant-loop-block l = IsClearedTo l.fn.words l.words l.first l.last l.block
