use Rattle.std.proofs.Common.{◌≡◌}
use Rattle.device.specs.Coming.{AreRefreshed}
use Rattle.device.specs.Sides.{IsSide}
use Rattle.device.proofs.side.Side.refresh.Given as goal

abbrev pub invariant-loop-writer : goal.invariant-loop-writer
invariant-loop-writer l = record {
  side : IsSide l.config l.self;
  index : l.self.index ≡ l.fn.self.index;
  refreshed : AreRefreshed l.writer l.fn.self l.self;
}
