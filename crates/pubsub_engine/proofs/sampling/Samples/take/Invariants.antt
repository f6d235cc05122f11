use Rattle.std.proofs.Common.{◌≡◌, length}
use Rattle.version_cell.specs.Sets.{ArePassesOf}
use Rattle.pubsub_engine.proofs.SampleLoop.{HasTaken}
use Rattle.pubsub_engine.proofs.sampling.Samples.take.Given as goal

abbrev pub invariant-loop-set : goal.invariant-loop-set
invariant-loop-set g l = record {
  count : length l.self.taken.items ≡ length l.fn.self.taken.items;
  own : ArePassesOf l.bank l.self.passes;
  taken : HasTaken l.set l.fn.self.passes l.self.passes l.self.taken.items;
  cut : l.self.cut ≡ l.fn.self.cut;
}
