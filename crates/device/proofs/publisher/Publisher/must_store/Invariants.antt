use Rattle.std.proofs.Common.{ℕ, ◌<◌}
use Rattle.std.specs.List.{HoldsAt}
use Rattle.device.specs.Storing.{IsAheadIn}
use Rattle.device.proofs.publisher.Publisher.must_store.Given as goal

abbrev pub invariant-loop-k : goal.invariant-loop-k
invariant-loop-k l = (keygroup : ℕ) → keygroup < l.k → HoldsAt (IsAheadIn l.self.store.covered keygroup) l.self.senders.items keygroup
