use Rattle.std.proofs.Common.{◌≡◌, length}
use Rattle.device.specs.Readings.{HasExpired}
use Rattle.device.specs.Sides.{IsSubscriber}
use Rattle.device.proofs.Firsts.{FirstBecome}
use Rattle.device.proofs.subscriber.Subscriber.expire.Given as goal

abbrev pub invariant-loop-g : goal.invariant-loop-g
invariant-loop-g l = record {
  subscriber : IsSubscriber l.self;
  config : l.self.config ≡ l.fn.self.config;
  count : length l.self.groups.items ≡ length l.fn.self.groups.items;
  each : FirstBecome (HasExpired l.now) l.g l.fn.self.groups.items l.self.groups.items;
}
