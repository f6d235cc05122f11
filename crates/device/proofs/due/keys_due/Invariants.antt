use Rattle.std.specs.List.{AllWithin, Any}
use Rattle.device.specs.Coming.{HasNewToken}
use Rattle.device.specs.Due.{KeepsToken, TellsFirst}
use Rattle.device.proofs.due.keys_due.Given as goal

abbrev pub invariant-loop-k : goal.invariant-loop-k
invariant-loop-k l = TellsFirst l.now (λ t. AllWithin (KeepsToken t) l.senders 0 l.k) (λ t. Any (HasNewToken t) l.senders) l.first
