use Rattle.std.proofs.Common.{◌≡◌, ◌≤◌, length}
use Rattle.device.specs.Coming.{Does}
use Rattle.device.specs.Sides.{IsPublisher}
use Rattle.device.proofs.Looks.{SoFar}
use Rattle.device.proofs.publisher.Publisher.turn_due.Given as goal

abbrev pub invariant-loop-g : goal.invariant-loop-g
invariant-loop-g l = record {
  publisher : IsPublisher l.self;
  none_waits : l.self.made ≤ l.self.handed;
  config : l.self.config ≡ l.fn.self.config;
  rows : l.self.rows.items ≡ l.fn.self.rows.items;
  store : l.self.store ≡ l.fn.self.store;
  senders : l.self.senders.items ≡ l.fn.self.senders.items;
  count : length l.self.sides.items ≡ length l.fn.self.sides.items;
  far : SoFar (Does l.fn.self.config l.now l.fn.self.rows.items l.fn.self.senders.items) l.g l.held l.fn.self.sides.items l.self.sides.items;
}
