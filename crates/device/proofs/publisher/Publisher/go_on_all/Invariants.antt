use Rattle.std.proofs.Common.{◌≡◌, length}
use Rattle.device.specs.Restarts.{HaveGoneOn}
use Rattle.device.specs.Sides.{IsPublisher}
use Rattle.device.proofs.publisher.Publisher.go_on_all.Given as goal

abbrev pub invariant-loop-k : goal.invariant-loop-k
invariant-loop-k l = record {
  publisher : IsPublisher l.self;
  count : length l.self.senders.items ≡ length l.fn.self.senders.items;
  gone : HaveGoneOn l.now l.k l.state.words l.fn.self l.self;
}
