use Rattle.cmd_keys.proofs.Known.{have_length}
use Rattle.cmd_keys.proofs.opening.trials_of.Goals as goal

pub each_trial-requires-clause-lengths : goal.each_trial-requires-clause-lengths
each_trial-requires-clause-lengths c = have_length c.args.keys.now c.as_slice.result.now c.as_slice.ensures.value c.requires.reply
