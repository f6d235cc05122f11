use Rattle.std.proofs.Common.{◌≡◌, length, take}
use Rattle.message_guard.specs.Guards.{setup_of}
use Rattle.cmd_keys.specs.Trials.{AreTrials}
use Rattle.cmd_keys.proofs.opening.each_trial.Given as goal

-- the keys so far were tried, once each
abbrev pub invariant-loop-set : goal.invariant-loop-set
invariant-loop-set l = AreTrials (setup_of l.guard) (take l.set-index l.sets) l.trials.items × (length l.trials.items ≡ l.set-index)
