use Rattle.std.proofs.Common.{arith}
use Rattle.pubsub_engine.specs.Holding.{keeper_of}
use Rattle.script_runner.proofs.Meeting.{level-stored}
use Rattle.script_runner.proofs.ending.level.Goals as goal

pub returns-clause-stored : goal.returns-clause-stored
returns-clause-stored g c = λ reader lt.
    level-stored (keeper_of c.args.session.now) c.args.done.now.watches c.level.new.looks c.level.ensures.level reader (let n = c.requires.own.count in omega (arith, lt, n))
