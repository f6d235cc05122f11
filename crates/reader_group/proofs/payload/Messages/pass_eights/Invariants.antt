use Rattle.std.proofs.Common.{◌≡◌, ◌-◌, ◌≤◌, length}
use Rattle.reader_group.specs.Held.{listed_upto}
use Rattle.reader_group.proofs.payload.Messages.pass_eights.Given as goal

abbrev pub invariant-loop-index : goal.invariant-loop-index
invariant-loop-index l = record {
  within : l.index ≤ length l.self.parts.now;
  ahead : l.from ≤ l.index;
  passed : listed_upto l.writer l.index l.self ≡ listed_upto l.writer l.from l.self;
}

abbrev pub decreases-loop-index : goal.decreases-loop-index
decreases-loop-index l = length l.self.parts.now - l.index
