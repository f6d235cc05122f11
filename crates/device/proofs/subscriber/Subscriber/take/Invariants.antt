use Rattle.std.proofs.Common.{◌≡◌, length}
use Rattle.device.specs.Sides.{IsSubscriber}
use Rattle.device.specs.Takings.{AnswersNoOthers, HaveTaken}
use Rattle.device.proofs.subscriber.Subscriber.take.Given as goal

abbrev pub invariant-loop-g : goal.invariant-loop-g
invariant-loop-g l = record {
  subscriber : IsSubscriber l.self;
  count : length l.self.groups.items ≡ length l.fn.self.groups.items;
  answers : length l.answers ≡ 4;
  taken : HaveTaken l.g l.now l.bytes l.answers l.fn.self l.self;
  others : AnswersNoOthers l.g l.answers;
}
