use Rattle.pubsub_engine.specs.Authored.{AreHistories}
use Rattle.pubsub_engine.proofs.closing.histories.Given as goal

abbrev pub invariant-loop-set : goal.invariant-loop-set
invariant-loop-set l = AreHistories l.samples.passes l.dones l.set l.histories.items
