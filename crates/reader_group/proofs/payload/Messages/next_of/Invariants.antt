use Rattle.std.proofs.Common.{◌≡◌}
use Rattle.reader_group.specs.Held.{listed_upto}
use Rattle.reader_group.proofs.payload.Messages.next_of.Given as goal

abbrev pub invariant-loop-index : goal.invariant-loop-index
invariant-loop-index l = listed_upto l.writer l.index l.self ≡ listed_upto l.writer l.from l.self
