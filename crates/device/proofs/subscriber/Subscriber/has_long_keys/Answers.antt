use Rattle.device.proofs.Keys.{reads-long, reads-none, reads-unkeyed}
use Rattle.device.proofs.subscriber.Subscriber.has_long_keys.Goals as goal

pub returns-in-Some-clause-long : goal.returns-in-Some-clause-long
returns-in-Some-clause-long c =
    reads-long c.args.self.now.config c.args.group c.in-Some.keygroup c.has_long_keys.result c.in-Some.ensures.keyed c.has_long_keys.ensures.long

pub returns-in-Some-clause-none : goal.returns-in-Some-clause-none
returns-in-Some-clause-none c =
    reads-none c.args.self.now.config c.args.group c.in-Some.keygroup c.has_long_keys.result c.in-Some.ensures.keyed c.has_long_keys.ensures.none

pub returns-in-None-clause-none : goal.returns-in-None-clause-none
returns-in-None-clause-none c = reads-unkeyed c.args.self.now.config c.args.group c.in-None.ensures.none
