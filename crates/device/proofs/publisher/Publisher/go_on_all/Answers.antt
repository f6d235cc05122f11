use Rattle.std.proofs.Common.{◌∙◌}
use Rattle.device.proofs.Begins.{gone-more}
use Rattle.device.proofs.publisher.Publisher.go_on_all.Goals as goal

pub loop-k-preserved : goal.loop-k-preserved
loop-k-preserved c = record {
  publisher = c.go_on_behind.ensures.publisher;
  count = c.go_on_behind.ensures.count ∙ c.loop-k.invariant.count;
  gone = gone-more c.args.now c.loop-k.k c.pair_in.result c.args.state.now.words c.args.self.now c.loop-k.self c.go_on_behind.new.self c.pair_in.ensures c.loop-k.invariant.gone
      c.go_on_behind.ensures.gone;
}
