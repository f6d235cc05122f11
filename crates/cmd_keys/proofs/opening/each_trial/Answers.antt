use Rattle.std.proofs.Common.{arith}
use Rattle.message_guard.specs.Guards.{setup_of}
use Rattle.cmd_keys.proofs.Trying.{tried_more}
use Rattle.cmd_keys.proofs.opening.each_trial.Goals as goal

pub loop-set-preserved : goal.loop-set-preserved
loop-set-preserved c =
    let so = c.loop-set.invariant in (
      tried_more (setup_of c.args.guard.now) c.args.sets.now c.loop-set.set-index c.set-item.result c.loop-set.trials.items c.push.new.self.items c.trial_of.result
          c.loop-set-test.true c.set-item.is so.0 c.trial_of.ensures c.push.ensures.items,
      omega (arith, c.push.ensures.len, so.1),
    )
