use Rattle.std.proofs.Common.{arith}
use Rattle.device.proofs.publisher.Publisher.must_store.Goals as goal

pub returns-clause-not : goal.returns-clause-not
returns-clause-not c = λ keygroup within. c.loop-k.invariant keygroup (omega (arith, within, c.loop-k-test.false, c.loop-k.auto.k-end, c.len-k-end.ensures, c.args.self.now.senders.ok.0))
