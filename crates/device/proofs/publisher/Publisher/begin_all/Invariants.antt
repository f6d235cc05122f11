use Rattle.device.specs.Restarts.{HaveNumbersBegun}
use Rattle.device.specs.Sides.{IsPublisher}
use Rattle.device.proofs.publisher.Publisher.begin_all.Given as goal

abbrev pub invariant-loop-place : goal.invariant-loop-place
invariant-loop-place l = record {
  publisher : IsPublisher l.self;
  begun : HaveNumbersBegun l.place l.state.words l.fn.self l.self;
}
