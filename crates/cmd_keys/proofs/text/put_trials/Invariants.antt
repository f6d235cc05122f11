use Rattle.std.proofs.Common.{◌≡◌, ◌++◌, take}
use Rattle.cmd_keys.specs.Texts.{trial_lines}
use Rattle.cmd_keys.proofs.text.put_trials.Given as goal

abbrev pub invariant-loop-trial : goal.invariant-loop-trial
invariant-loop-trial l = l.out.items ≡ l.fn.out.items ++ trial_lines (take l.trial-index l.trials)
